use Rattle.std.proofs.Common.{◌≡◌, ◌-◌, drop}
use Rattle.pictures.specs.Pictures.{covers, painted}
use Rattle.records.specs.Again.{records_of}
use Rattle.rebuild.specs.Segments.{column_at}
use Rattle.rebuild.specs.Rebuilders.{segment_samples_by}
use Rattle.rebuild.proofs.Rectangles.{columns_before}
use Rattle.rebuild.proofs.rebuilder.Rebuilder.rebuild_row.Given as goal

-- the macroblocks left of this one are set
abbrev pub invariant-loop-column : goal.invariant-loop-column
invariant-loop-column g l =
    (g.S.Store.picture l.working
    ≡ painted (covers (columns_before l.self.window.segment l.row l.column))
    (segment_samples_by g.S.Store.picture g.T.Transform.meaning l.self (records_of l.initial.delivery) (drop l.first l.vectors) (column_at l.self.window.segment))
    (g.S.Store.picture l.initial.working))
    × (records_of l.delivery ≡ drop (l.column - l.self.window.segment.left) (records_of l.initial.delivery))
