use Rattle.std.proofs.Common.{get_or, pos, to_z-of_z, w32, SFits, rules}
use Rattle.transform.proofs.Columns.{column_none, column_more}
use Rattle.transform.proofs.set_column.Goals as goal

pub loop-n-init : goal.loop-n-init
loop-n-init c = column_none _ _ _ c.told-x

pub loop-n-preserved : goal.loop-n-preserved
loop-n-preserved c =
    let fits : SFits w32 (get_or c.args.column c.loop-n.n (pos 0)) = search rules in
    column_more c.args.column c.args.v c.loop-n.n c.args.x.now c.loop-n.x _ c.requires c.loop-n-test.true (to_z-of_z fits) c.loop-n.invariant
