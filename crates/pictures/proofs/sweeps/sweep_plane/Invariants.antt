use Rattle.std.proofs.Common.{◌≡◌, ◌≤◌, max}
use Rattle.pictures.specs.Pictures.{painted}
use Rattle.pictures.proofs.Painting.{block}
use Rattle.pictures.proofs.sweeps.sweep_plane.Given as goal

-- the rows above are painted
abbrev pub invariant-loop-down : goal.invariant-loop-down
invariant-loop-down g l =
    (g.S.Store.picture l.store ≡ painted (block l.plane l.left l.right l.initial.down l.down) (g.B.Brush.paint l.brush) (g.S.Store.picture l.initial.store))
    × (l.down ≤ max l.initial.down l.down-end)
