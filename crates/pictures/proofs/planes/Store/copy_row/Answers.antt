use Rattle.std.proofs.Common.{arith}
use Rattle.pictures.proofs.Painting.{row_begun, row_done, row_more}
use Rattle.pictures.proofs.planes.Store.copy_row.Goals as goal

pub loop-across-init : goal.loop-across-init
loop-across-init g c = row_begun _ _ _ _ _ _

pub loop-across-preserved : goal.loop-across-preserved
loop-across-preserved g c =
    row_more (g.Self.Store.picture c.args.other.now).sample _ (g.Self.Store.picture c.loop-across.self) _ c.args.plane c.args.down c.args.left c.args.right c.loop-across.across _
    c.loop-across.invariant c.copy_run-across.ensures.next c.copy_run-across.ensures.after

pub returns : goal.returns
returns g c = row_done _ _ _ _ _ _ _ _ c.loop-across.invariant (omega arith)
