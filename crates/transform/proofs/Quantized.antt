-- The steps of the code from levels to coefficients, against their rules. Assumes nothing.
use Rattle.std.proofs.Common.{◌≡◌, ℕ, zero, suc, ◌+◌, ◌-◌, ◌*◌, ◌%◌, ◌^◌, ◌<◌, ◌≢◌, true, false, cond, eqb, List, length, get_or, set, ℤ, pos, negsuc, ◌-ℤ◌, Some, None, Option, sym, refl, ap, ◌∙◌, arith, length-set, get_or-set_same, get_or-set_other, w64, to_z, of_z}
use native.Mathlib.Nat.{sub-zero}
use lib.Signed.{lt_z}
use Rattle.std.proofs.lemmas.Int.{ints}
use Rattle.std.proofs.lemmas.List.FromFn.{fill_by_all}
use Rattle.std.proofs.lemmas.Bool.{cond-true, cond-false, eq-eqb, ne_eqb}
use Rattle.std.proofs.lemmas.Bool.Decides.{nat_tests}
use Rattle.transform.specs.Signs.{with_sign}
use Rattle.transform.specs.Levels.{rebuilt_size, first_coefficient}
use Rattle.transform.specs.Blocks.{Gives}
use Rattle.transform.specs.Coefficients.{from_level, coefficient_at, block_coefficients}

-- ---- sizes, at an even and an odd quantizer
size_is : (q l : ℕ) → (l ≡ 0 → ⊥) → rebuilt_size q l ≡ q * (2 * l + 1) - cond (eqb (q % 2) 0) 1 0
unfolding rebuilt_size
size_is q zero f = absurd (f refl)
size_is q (suc l) f = refl

pub size_none : (q l : ℕ) → l ≡ 0 → 0 ≡ rebuilt_size q l
unfolding rebuilt_size
size_none q zero e = refl
size_none q (suc l) e = absurd (omega arith)

pub size_even : (q l : ℕ) → (l ≡ 0 → ⊥) → q % 2 ≡ 0 → rebuilt_size q l ≡ q * (2 * l + 1) - 1
size_even q l f e = size_is q l f ∙ ap (λ n. q * (2 * l + 1) - n) (cond-true _ 1 0 (eq-eqb _ _ e))

pub size_odd : (q l : ℕ) → (l ≡ 0 → ⊥) → (q % 2 ≡ 0 → ⊥) → rebuilt_size q l ≡ q * (2 * l + 1)
size_odd q l f e = size_is q l f ∙ ap (λ n. q * (2 * l + 1) - n) (cond-false _ 1 0 (ne_eqb _ _ e)) ∙ sub-zero _

-- ---- signs
pub sign_under : (number : ℤ) (n : ℕ) (z : ℤ) → z ≡ pos n → n < 2 ^ 32 → lt_z number (pos 0) ≡ true → to_z w64 (of_z w64 (pos 0 -ℤ to_z w64 (of_z w64 z))) ≡ with_sign number n
unfolding with_sign
sign_under (pos m) n z e h t = absurd (grind (arith, nat_tests))
sign_under (negsuc m) n z e h t = omega (arith, ints)

pub sign_over : (number : ℤ) (n : ℕ) (z : ℤ) → z ≡ pos n → n < 2 ^ 32 → lt_z number (pos 0) ≡ false → to_z w64 (of_z w64 z) ≡ with_sign number n
unfolding with_sign
sign_over (pos m) n z e h t = omega (arith, ints)
sign_over (negsuc m) n z e h t = absurd (let y : true ≡ false = t in grind arith)

-- ---- a block with a code for its first coefficient, written over that of its level, and a block without
coded_at : (q code : ℕ) (levels out : List ℤ) (v : ℤ) → length out ≡ 64 → Gives out (from_level q levels) → v ≡ first_coefficient code
    → (k : ℕ) → k < 64 → get_or (set out 0 v) k (pos 0) ≡ coefficient_at q (Some code) levels k
unfolding coefficient_at
coded_at q code levels out v n gives is zero h = let some : 0 < length out = omega arith in rw get_or-set_same is
coded_at q code levels out v n gives is (suc k) h = let ne : suc k ≢ 0 = omega arith in rw get_or-set_other (gives (suc k) h)

pub coded : (q code : ℕ) (dc : Option ℕ) (levels out : List ℤ) (v : ℤ) → dc ≡ Some code → length out ≡ 64 → Gives out (from_level q levels) → v ≡ first_coefficient code
    → set out 0 v ≡ block_coefficients q dc levels
unfolding block_coefficients
coded q code dc levels out v e n gives is =
    fill_by_all (coefficient_at q (Some code) levels) (set out 0 v) 64 (pos 0) (simp length-set n) (coded_at q code levels out v n gives is)
    ∙ ap (λ d. block_coefficients q d levels) (sym e)

pub uncoded : (q : ℕ) (dc : Option ℕ) (levels out : List ℤ) → dc ≡ None → length out ≡ 64 → Gives out (from_level q levels) → out ≡ block_coefficients q dc levels
unfolding block_coefficients coefficient_at
uncoded q dc levels out e n gives =
    fill_by_all (coefficient_at q None levels) out 64 (pos 0) n gives ∙ ap (λ d. block_coefficients q d levels) (sym e)
