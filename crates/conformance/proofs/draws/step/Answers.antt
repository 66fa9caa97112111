use Rattle.std.proofs.Common.{arith}
use Rattle.conformance.specs.Draws.{stepped}
use Rattle.conformance.proofs.draws.step.Goals as goal

pub returns : goal.returns
unfolding stepped
returns c = omega arith
