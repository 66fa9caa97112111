use Rattle.std.proofs.Common.{◌+◌, ◌*◌, Some}
use Rattle.deblocking.specs.Edges.{FilteredAt, edges}
use Rattle.deblocking.proofs.Edge.filter_squares.Given as goal

-- the squares before this one are filtered
abbrev pub invariant-loop-square : goal.invariant-loop-square
invariant-loop-square g l =
    FilteredAt l.self.direction (edges l.self.plane l.from (l.from + 8 * l.square) l.self.number (l.self.number + 1)) (λ _ _ _. Some l.quantizer) (g.S.Store.picture l.initial.store) (g.S.Store.picture l.store)
