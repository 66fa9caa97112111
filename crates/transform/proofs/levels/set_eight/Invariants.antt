use Rattle.std.proofs.Common.{◌≡◌, length}
use Rattle.transform.specs.Coefficients.{SetBefore}
use Rattle.transform.proofs.levels.set_eight.Given as goal

abbrev pub invariant-loop-position : goal.invariant-loop-position
invariant-loop-position l = (length l.out ≡ 64) × SetBefore l.quantizer l.levels l.position l.out
