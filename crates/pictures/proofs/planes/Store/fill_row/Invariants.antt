use Rattle.std.proofs.Common.{◌-◌}
use Rattle.pictures.proofs.Painting.{RowTo}
use Rattle.pictures.proofs.planes.Store.fill_row.Given as goal

-- the places to the left are painted
abbrev pub invariant-loop-across : goal.invariant-loop-across
invariant-loop-across g l = RowTo (λ _ _ _. l.value) (g.Self.Store.picture l.initial.self) (g.Self.Store.picture l.self) l.plane l.down l.left l.right l.across

abbrev pub decreases-loop-across : goal.decreases-loop-across
decreases-loop-across g l = l.right - l.across
