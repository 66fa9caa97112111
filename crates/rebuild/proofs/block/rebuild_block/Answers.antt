use Rattle.std.proofs.Common.{◌∙◌, arith}
use Rattle.samples.specs.Prediction.{rounding_of}
use Rattle.rebuild.specs.Blocks.{values_of}
use Rattle.rebuild.proofs.Sixths.{agreeing}
use Rattle.rebuild.proofs.Squares.{block_summed}
use Rattle.rebuild.proofs.block.rebuild_block.Goals as goal

pub returns : goal.returns
returns g c =
    let p = c.args.place in
    let w = c.args.window.now in
    c.write_square.ensures
    ∙ agreeing _ _ _ _ (λ q u v e.
    block_summed w.segment (rounding_of w.rounding) (g.S.Store.picture w.finished.now).sample c.args.source (values_of c.args.residual.now) c.predicted_block.result c.sums_of-sums.result
    p.plane p.left p.top q u v e (omega arith) (omega arith) c.predicted_block.ensures c.sums_of-sums.ensures)
