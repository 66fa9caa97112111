use Rattle.std.proofs.Common.{◌*◌, sym, rules}
use Rattle.transcripts.proofs.Summed.{rows_more, rows_none}
use Rattle.transcripts.proofs.sums.sum_plane.Goals as goal

pub loop-down-init : goal.loop-down-init
loop-down-init g c = sym (rows_none _ _)

pub loop-down-preserved : goal.loop-down-preserved
loop-down-preserved g c =
    let step = rows_more ((g.S.Store.picture c.args.store.now).sample c.args.plane) (c.columns.result * c.side_of-side.result) c.loop-down.down in
    search rules
