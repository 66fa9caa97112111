use Rattle.std.proofs.Common.{◌≡◌, ◌^◌, length, arith, rules}
use Rattle.std.proofs.lemmas.Iterator.{YieldsList-from_slice}
use Rattle.std.proofs.lemmas.Iterator.Adapters.{at_most_from_yields_List, fits_from_length}
use Rattle.script.proofs.show.coefficients.Goals as goal

-- at most 64 of each of the six
pub sum-requires-clause-fits : goal.sum-requires-clause-fits
sum-requires-clause-fits c =
    let six : length c.args.blocks.now ≡ 6 = search rules in
    fits_from_length _ _ 6 (2 ^ 64) (at_most_from_yields_List (YieldsList-from_slice c.args.blocks.now cc) (omega (arith, six))) c.map.ensures.closure (omega arith) (λ x r q k. search rules)
