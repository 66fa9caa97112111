use Rattle.band_timing.specs.Size.{SameSize}
use Rattle.band_timing.proofs.draw_row.Given as goal

-- the size stays
abbrev pub invariant-loop-across : goal.invariant-loop-across
invariant-loop-across g l = SameSize (g.S.Store.picture l.store) (g.S.Store.picture l.initial.store)
