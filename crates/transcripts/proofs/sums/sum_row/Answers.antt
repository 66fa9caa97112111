use Rattle.std.proofs.Common.{sym, rules}
use Rattle.transcripts.proofs.Summed.{row_more, row_none}
use Rattle.transcripts.proofs.sums.sum_row.Goals as goal

pub loop-across-init : goal.loop-across-init
loop-across-init g c = sym (row_none _ _ _)

pub loop-across-preserved : goal.loop-across-preserved
loop-across-preserved g c =
    let step = row_more ((g.S.Store.picture c.args.store.now).sample c.args.plane) c.args.down c.loop-across.across c.args.sum in
    search rules
