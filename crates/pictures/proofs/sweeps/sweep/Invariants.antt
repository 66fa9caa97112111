use Rattle.std.proofs.Common.{◌≡◌, ◌&&◌, ltb}
use Rattle.pictures.specs.Pictures.{covers, painted}
use Rattle.pictures.proofs.sweeps.sweep.Given as goal

-- the planes before this one are painted
abbrev pub invariant-loop-plane : goal.invariant-loop-plane
invariant-loop-plane g l =
    g.S.Store.picture l.store ≡ painted (λ q u v. ltb q l.plane && covers l.segment q u v) (g.B.Brush.paint l.brush) (g.S.Store.picture l.initial.store)
