use Rattle.std.proofs.Common.{◌∙◌}
use Rattle.deblocking.proofs.Squared.{square_value}
use Rattle.rebuild.proofs.Sixths.{agreeing}
use Rattle.rebuild.proofs.block.copy_block.Goals as goal

pub returns : goal.returns
returns g c =
    let p = c.args.place in
    c.write_square.ensures ∙ agreeing _ _ _ _ (λ q u v e. square_value (g.S.Store.picture c.args.finished.now).sample p.plane p.left p.top c.read_square-samples.result q u v e c.read_square-samples.ensures)
