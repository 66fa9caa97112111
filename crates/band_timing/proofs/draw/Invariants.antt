use Rattle.band_timing.specs.Size.{SameSize}
use Rattle.band_timing.proofs.draw.Given as goal

-- the size stays
abbrev pub invariant-loop-down : goal.invariant-loop-down
invariant-loop-down g l = SameSize (g.S.Store.picture l.store) (g.S.Store.picture l.initial.store)
