-- Setting a bit sets that bit alone.
use Rattle.std.proofs.Common.{◌≡◌, ℕ, suc, ◌+◌, ◌-◌, ◌*◌, ◌/◌, ◌%◌, ◌^◌, ◌<◌, ◌≤◌, max, Bool, true, false, cond, eqb, ltb, ◌≢◌, sym, refl, ap, ◌∙◌, subst, mul-div_cancel, arith, pow_pos, pow-add}
use native.Mathlib.Nat.{div-eq_of_lt, div_self, mul-mod_left}
use lib.Bits.{bit_or, or_shr, or_step}
use lib.Pow.{pow-lt}
use Rattle.std.proofs.lemmas.Bool.{eq-eqb, eqb-false, eqb-true, ltb-false, ltb-true, ne_eqb}
use Rattle.pictures.specs.Segments.{has_bit}

or_odd : (a b : ℕ) → bit_or a b % 2 ≡ max (a % 2) (b % 2)
or_odd a b = omega (arith, or_step a b)

one_bit_low : (j k : ℕ) → j < k → 2 ^ k / 2 ^ j % 2 ≡ 0
one_bit_low j k h =
    let d = k - suc j in
    let e : k ≡ (d + 1) + j = omega arith in
    let a : 2 ^ k ≡ 2 ^ (d + 1) * 2 ^ j = ap (λ n. 2 ^ n) e ∙ pow-add 2 (d + 1) j in
    let b : 2 ^ k / 2 ^ j ≡ 2 ^ (d + 1) = ap (λ n. n / 2 ^ j) a ∙ mul-div_cancel (2 ^ (d + 1)) (pow_pos j) in
    let g : 2 ^ (d + 1) ≡ 2 ^ d * 2 = pow-add 2 d 1 in
    ap (λ n. n % 2) (b ∙ g) ∙ mul-mod_left (2 ^ d) 2

one_bit_other : (j k : ℕ) → j ≢ k → 2 ^ k / 2 ^ j % 2 ≡ 0
one_bit_other j k h = go (ltb j k) refl
  where
    go : (t : Bool) → ltb j k ≡ t → 2 ^ k / 2 ^ j % 2 ≡ 0
    go true e = one_bit_low j k (ltb-true j k e)
    go false e = let g : k ≤ j = ltb-false j k e in let l : k < j = omega arith in ap (λ n. n % 2) (div-eq_of_lt (pow-lt l))

one_bit_own : (k : ℕ) → 2 ^ k / 2 ^ k % 2 ≡ 1
one_bit_own k = ap (λ n. n % 2) (div_self (pow_pos k))

pub set_bit : (n k j : ℕ) → has_bit (bit_or n (2 ^ k)) j ≡ cond (eqb j k) true (has_bit n j)
unfolding has_bit
set_bit n k j = ap (λ a. eqb (a % 2) 1) (or_shr n (2 ^ k) j) ∙ (ap (λ a. eqb a 1) (or_odd (n / 2 ^ j) (2 ^ k / 2 ^ j)) ∙ go (eqb j k) refl)
  where
    go : (t : Bool) → eqb j k ≡ t → eqb (max (n / 2 ^ j % 2) (2 ^ k / 2 ^ j % 2)) 1 ≡ cond t true (eqb (n / 2 ^ j % 2) 1)
    go true e =
        let i : j ≡ k = eqb-true j k e in
        let o : 2 ^ k / 2 ^ j % 2 ≡ 1 = subst (λ m. 2 ^ k / 2 ^ m % 2 ≡ 1) (sym i) (one_bit_own k) in
        eq-eqb (max (n / 2 ^ j % 2) (2 ^ k / 2 ^ j % 2)) 1 (omega arith)
    go false e =
        let o : 2 ^ k / 2 ^ j % 2 ≡ 0 = one_bit_other j k (eqb-false j k e) in
        let m : max (n / 2 ^ j % 2) (2 ^ k / 2 ^ j % 2) ≡ n / 2 ^ j % 2 = omega arith in
        ap (λ a. eqb a 1) m

-- and no other
pub other_bit : (n k j : ℕ) → j ≢ k → has_bit (bit_or n (2 ^ k)) j ≡ has_bit n j
other_bit n k j h = set_bit n k j ∙ ap (λ t. cond t true (has_bit n j)) (ne_eqb j k h)

pub zero_bit : (j : ℕ) → has_bit 0 j ≡ false
unfolding has_bit
zero_bit j = ap (λ a. eqb (a % 2) 1) (div-eq_of_lt (pow_pos j))
