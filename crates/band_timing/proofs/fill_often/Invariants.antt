use Rattle.band_timing.specs.Size.{SameSize}
use Rattle.band_timing.proofs.fill_often.Given as goal

-- the size stays
abbrev pub invariant-loop-round : goal.invariant-loop-round
invariant-loop-round g l = SameSize (g.S.Store.picture l.store) (g.S.Store.picture l.initial.store)
