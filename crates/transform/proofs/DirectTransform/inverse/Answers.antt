use Rattle.std.proofs.Common.{rules}
use Rattle.transform.specs.Laws.{unrounded_rows}
use Rattle.transform.proofs.DirectTransform.inverse.Goals as goal

pub returns : goal.returns
returns c n k hn hk = let e = c.in_two_passes.ensures n k hn hk in let d = unrounded_rows 16777216 33554432 c.args.coefficients.now n k in search rules
