use Rattle.std.proofs.Common.{◌&&◌, ltb}
use Rattle.deblocking.specs.Edges.{FilteredByMarks, edges_in}
use Rattle.deblocking.proofs.filter_edges.Given as goal

-- the planes before this one are filtered
abbrev pub invariant-loop-plane : goal.invariant-loop-plane
invariant-loop-plane g l =
    FilteredByMarks l.direction (λ q u v. ltb q l.plane && edges_in l.inner q u v) l.marks.cells.now l.marks.columns (g.S.Store.picture l.initial.store) (g.S.Store.picture l.store)
