use Rattle.band_timing.specs.Size.{SameSize}
use Rattle.band_timing.proofs.copy_often.Given as goal

-- the sizes stay
abbrev pub invariant-loop : goal.invariant-loop
invariant-loop g l =
    SameSize (g.S.Store.picture l.one) (g.S.Store.picture l.initial.one) × SameSize (g.S.Store.picture l.two) (g.S.Store.picture l.initial.two)
