use Rattle.std.proofs.Common.{◌≤◌, max}
use Rattle.deblocking.specs.Edges.{FilteredByMarks, edge_along}
use Rattle.deblocking.proofs.Edge.filter_along.Given as goal

-- the edge is filtered up to this macroblock along it
abbrev pub invariant-loop-along : goal.invariant-loop-along
invariant-loop-along g l =
    FilteredByMarks l.self.direction (edge_along l.self.plane l.self.number l.left l.along) l.marks.cells.now l.marks.columns (g.S.Store.picture l.initial.store) (g.S.Store.picture l.store)
    × (l.along ≤ max l.left l.right)
