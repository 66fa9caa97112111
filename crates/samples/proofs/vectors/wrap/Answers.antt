use Rattle.std.proofs.Common.{◌≡◌, ℤ, pos, negsuc, ◌+ℤ◌, ◌-ℤ◌, ◌≤ℤ◌, sym, ap, ◌∙◌, subst, arith, w32, to_z, of_z}
use Rattle.std.specs.Int.{int_rem_euclid}
use Rattle.std.proofs.lemmas.Int.{ints}
use Rattle.samples.specs.Vectors.{wrapped}
use Rattle.samples.proofs.Components.{less_32, from_32}
use Rattle.samples.proofs.vectors.wrap.Goals as goal

pub returns : goal.returns
unfolding wrapped
returns c =
    let is = less_32 c.rem_euclid.result c.rem_euclid.ensures.lower_bound c.rem_euclid.ensures.upper_bound in
    let sum : to_z w32 (of_z w32 (to_z w32 (of_z w32 c.from.result) +ℤ pos 32)) ≡ c.args.sum +ℤ pos 32 = omega (arith, ints) in
    record {
      value = is ∙ ap (λ z. z -ℤ pos 32) (c.rem_euclid.ensures.value ∙ ap (λ z. int_rem_euclid z (pos 64)) sum);
      range = subst (λ (z : ℤ). (negsuc 31 ≤ℤ z) × (z ≤ℤ pos 31)) (sym is) (from_32 c.rem_euclid.result c.rem_euclid.ensures.lower_bound c.rem_euclid.ensures.upper_bound);
    }
