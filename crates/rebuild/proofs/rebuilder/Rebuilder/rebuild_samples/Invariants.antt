use Rattle.std.proofs.Common.{◌≡◌, ◌-◌, ◌*◌, drop}
use Rattle.pictures.specs.Pictures.{covers, painted}
use Rattle.pictures.proofs.Painting.{rows_above}
use Rattle.records.specs.Again.{records_of}
use Rattle.rebuild.specs.Segments.{cell_at}
use Rattle.rebuild.specs.Rebuilders.{segment_samples_by}
use Rattle.rebuild.proofs.rebuilder.Rebuilder.rebuild_samples.Given as goal

-- the rows above this one are set
abbrev pub invariant-loop-row : goal.invariant-loop-row
invariant-loop-row g l =
    (g.S.Store.picture l.working
    ≡ painted (covers (rows_above l.self.window.segment l.row))
    (segment_samples_by g.S.Store.picture g.T.Transform.meaning l.self (records_of l.initial.delivery) (drop l.start l.vectors) (cell_at l.self.window.segment))
    (g.S.Store.picture l.initial.working))
    × (records_of l.delivery ≡ drop ((l.row - l.self.window.segment.top) * (l.self.window.segment.right - l.self.window.segment.left)) (records_of l.initial.delivery))
