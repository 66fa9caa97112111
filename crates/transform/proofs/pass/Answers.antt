use Rattle.std.proofs.Common.{◌^◌}
use Rattle.transform.proofs.Columns.{columns_more}
use Rattle.transform.proofs.pass.Goals as goal

pub loop-v-preserved : goal.loop-v-preserved
loop-v-preserved c =
    columns_more c.args.x.now c.block_row.result c.row.result c.args.quotient.half (2 ^ c.args.quotient.shift) c.loop-v.v c.loop-v.out _
    c.loop-v-test.true c.block_row.ensures c.row.ensures c.set_column.ensures c.loop-v.invariant
