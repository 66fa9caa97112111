use Rattle.std.proofs.Common.{get_or, pos}
use Rattle.transform.specs.Inverse.{limited}
use Rattle.transform.proofs.Fill.{Filled}
use Rattle.transform.proofs.widened.Given as goal

abbrev pub invariant-loop-p : goal.invariant-loop-p
invariant-loop-p l = Filled (λ k. limited (get_or l.coefficients k (pos 0))) l.p l.place-items
