use Rattle.std.proofs.Common.{◌≡◌}
use Rattle.transcripts.specs.Sums.{sum_of_rows}
use Rattle.transcripts.proofs.sums.sum_plane.Given as goal

abbrev pub invariant-loop-down : goal.invariant-loop-down
invariant-loop-down g l = l.sum ≡ sum_of_rows ((g.S.Store.picture l.store).sample l.plane) l.width l.down
