use Rattle.std.proofs.Common.{◌*◌, ◌≤◌, max}
use Rattle.pictures.specs.Pictures.{side}
use Rattle.deblocking.specs.Edges.{FilteredByMarks, edges}
use Rattle.deblocking.proofs.filter_plane.Given as goal

-- the edges before this one are filtered
abbrev pub invariant-loop-number : goal.invariant-loop-number
invariant-loop-number g l =
    FilteredByMarks l.direction (edges l.plane (l.segment.left * side l.plane) (l.segment.right * side l.plane) l.initial.number l.number) l.marks.cells.now l.marks.columns (g.S.Store.picture l.initial.store) (g.S.Store.picture l.store)
    × (l.number ≤ max l.initial.number l.number-end)
