use Rattle.std.proofs.Common.{arith}
use Rattle.reels_in_memory.proofs.Rows.{sample_more, samples_all}
use Rattle.reels_in_memory.proofs.copies.copy_row.Goals as goal

pub loop-across-preserved : goal.loop-across-preserved
loop-across-preserved g c =
    sample_more (λ across. (g.S.Store.picture c.args.store.now).sample c.args.plane across c.args.down) c.loop-across.row c.loop-across.across c.sample.result (omega arith) c.sample.ensures c.loop-across.invariant

pub returns : goal.returns
returns g c =
    samples_all (λ across. (g.S.Store.picture c.args.store.now).sample c.args.plane across c.args.down) c.loop-across.row c.loop-across.across _ (omega arith) (omega arith) c.loop-across.invariant
