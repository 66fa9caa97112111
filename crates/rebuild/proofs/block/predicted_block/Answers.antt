use Rattle.std.proofs.Common.{◌+◌, ◌/◌, ◌%◌}
use Rattle.samples.specs.Prediction.{rounding_of}
use Rattle.rebuild.proofs.Squares.{nothing}
use Rattle.rebuild.proofs.block.predicted_block.Goals as goal

pub returns-in-None : goal.returns-in-None
returns-in-None g c k h =
    let w = c.args.window.now in
    let p = c.args.place in
    nothing w.segment (rounding_of w.rounding) (g.S.Store.picture w.finished.now).sample c.args.source p.plane (p.left + k % 8) (p.top + k / 8) k h c.in-None.is
