use Rattle.std.proofs.Common.{get_or, pos}
use Rattle.transform.specs.Inverse.{ranged}
use Rattle.transform.proofs.Fill.{Filled}
use Rattle.transform.proofs.narrowed.Given as goal

abbrev pub invariant-loop-p : goal.invariant-loop-p
invariant-loop-p l = Filled (λ k. ranged (get_or l.results k (pos 0))) l.p l.place-items
