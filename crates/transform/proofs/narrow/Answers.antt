use Rattle.std.proofs.Common.{arith}
use Rattle.std.proofs.lemmas.Int.{ints, clamps}
use Rattle.transform.specs.Inverse.{ranged}
use Rattle.transform.specs.Sums.{brought}
use Rattle.transform.proofs.narrow.Goals as goal

pub returns : goal.returns
unfolding ranged brought
returns c = omega (arith, ints, clamps)
