use Rattle.std.proofs.Common.{◌+◌, ◌-◌, max, ap, ◌∙◌, arith}
use Rattle.prediction.proofs.Moves.{brought_is}
use Rattle.prediction.proofs.window.bring_inside.Goals as goal

pub returns : goal.returns
returns c =
    ap (λ n. n - 64) (c.max.ensures ∙ ap (λ n. max n (c.args.low + 64)) c.min.ensures)
    ∙ brought_is c.args.low c.args.high c.args.coordinate (omega arith)
