use Rattle.std.proofs.Common.{◌≡◌}
use Rattle.transcripts.specs.Sums.{sum_with_row}
use Rattle.transcripts.proofs.sums.sum_row.Given as goal

abbrev pub invariant-loop-across : goal.invariant-loop-across
invariant-loop-across g l = l.sum ≡ sum_with_row ((g.S.Store.picture l.store).sample l.plane) l.down l.across l.initial.sum
