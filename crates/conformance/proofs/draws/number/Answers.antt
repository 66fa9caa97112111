use Rattle.std.proofs.Common.{◌≡◌, ℕ, ◌+◌, ◌*◌, ◌/◌, ◌<◌, ◌≤◌, ℤ, pos, ◌-ℤ◌, ap, ◌∙◌, arith, w32, to_z, of_z}
use Rattle.std.proofs.lemmas.Int.{ints}
use Rattle.std.proofs.lemmas.Nat.{mul-le}
use Rattle.conformance.specs.Draws.{drawn}
use Rattle.conformance.proofs.draws.number.Goals as goal

-- the product, and its quotient

product_size : (x a b : ℕ) → x < 2147483648 → a < 65536 → b < 65536 → x * (a + b + 1) ≤ 2147483647 * 131071
product_size x a b h k l = mul-le x (a + b + 1) 2147483647 131071 (omega arith) (omega arith)

part_size : (x a b : ℕ) → x < 2147483648 → a < 65536 → b < 65536 → x * (a + b + 1) / 2147483647 ≤ 131071
part_size x a b h k l = let p = product_size x a b h k l in omega arith

difference_is : (q low : ℕ) (z : ℤ) → q ≤ 131071 → low < 65536 → z ≡ pos low → to_z w32 (of_z w32 (to_z w32 q -ℤ to_z w32 (of_z w32 z))) ≡ pos q -ℤ pos low
difference_is q low z h k e = omega (arith, ints)

pub returns : goal.returns
unfolding drawn
returns c =
    difference_is _ c.args.range.low _ (part_size c.from-3.result c.from.result c.from-2.result (omega arith) (omega arith) (omega arith)) (omega arith)
    c.from-4.ensures
    ∙ ap (λ q. pos q -ℤ pos c.args.range.low) (simp (c.from.ensures, c.from-2.ensures, c.from-3.ensures))
