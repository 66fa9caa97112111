use Rattle.std.proofs.Common.{arith}
use Rattle.std.proofs.lemmas.Int.{ints, clamps}
use Rattle.transform.specs.Inverse.{limited}
use Rattle.transform.specs.Sums.{brought}
use Rattle.transform.proofs.levels.limit.Goals as goal

pub returns : goal.returns
unfolding limited brought
returns c = record { value = omega (arith, ints, clamps); range = (omega (arith, ints, clamps), omega (arith, ints, clamps)) }
