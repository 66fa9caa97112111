-- How large sums and products of integers get, and that they fit a width. Assumes nothing.
use Rattle.std.proofs.Common.{◌≡◌, ℕ, zero, suc, ◌+◌, ◌*◌, ◌^◌, ◌<◌, ◌≤◌, leb, ℤ, pos, negsuc, ◌+ℤ◌, ◌*ℤ◌, neg_ℤ, nat_abs, refl, ap, ◌∙◌, lt_of_le_of_lt, add-mul, mul-le-mul_left, arith, leb→le, to_z-of_z, SFits, to_z, of_z}
use mir.Syntax.{Width}
use mir.Val.{hbits}
use lib.Signed.{shr_z, mag_shr}
use Rattle.std.proofs.lemmas.Int.{ints}
use Rattle.std.proofs.lemmas.Nat.{div_below}
use Rattle.transform.specs.Sums.{sum_to, floor}
use Rattle.transform.specs.Factors.{cosine, size, mirrored, signed}
use Rattle.transform.proofs.Finite.{all_to, below}

pub fits_size : (w : Width) (z : ℤ) → nat_abs z < 2 ^ hbits w → SFits w z
fits_size w (pos n) h = record { sfits = h }
fits_size w (negsuc n) h = record { sfits = omega arith }

pub abs_neg : (n : ℕ) → nat_abs (neg_ℤ (pos n)) ≡ n
abs_neg zero = refl
abs_neg (suc n) = refl

pub abs_product : (a b : ℤ) → nat_abs (a *ℤ b) ≡ nat_abs a * nat_abs b
abs_product (pos a) (pos b) = refl
abs_product (pos a) (negsuc b) = abs_neg (a * suc b)
abs_product (negsuc a) (pos b) = abs_neg (suc a * b)
abs_product (negsuc a) (negsuc b) = refl

pub abs_sum : (a b : ℤ) → nat_abs (a +ℤ b) ≤ nat_abs a + nat_abs b
abs_sum a b = omega (arith, ints)

-- the sizes of the first n of a 0, a 1, .. together
abbrev pub sizes : ℕ → (ℕ → ℤ) → ℕ
sizes zero a = 0
sizes (suc n) a = sizes n a + nat_abs (a n)

pub sum_size : (n : ℕ) (a x : ℕ → ℤ) (h : ℕ) → ((u : ℕ) → u < n → nat_abs (x u) ≤ h) → nat_abs (sum_to n (λ u. a u *ℤ x u)) ≤ sizes n a * h
unfolding sum_to
sum_size zero a x h small = omega arith
sum_size (suc n) a x h small =
    let rest = sum_size n a x h (λ u k. small u (omega arith)) in
    let last = mul-le-mul_left (nat_abs (a n)) (small n (omega arith)) in
    omega (arith, rest, last, abs_sum (sum_to n (λ u. a u *ℤ x u)) (a n *ℤ x n), abs_product (a n) (x n), add-mul (sizes n a) (nat_abs (a n)) h)

-- the factors of one sum, or of its first few terms, come to 15303
pub factors_size : (u n : ℕ) → u ≤ 8 → n < 8 → sizes u (λ j. cosine j n) ≤ 15303
unfolding cosine size mirrored signed
factors_size u n hu hn =
    leb→le _ _ (below 8 (λ m. leb (sizes u (λ j. cosine j m)) 15303)
    (below 9 (λ i. all_to 8 (λ m. leb (sizes i (λ j. cosine j m)) 15303)) tt u (omega arith)) n hn)

pub factor_size : (u n : ℕ) → u < 8 → n < 8 → nat_abs (cosine u n) ≤ 2841
unfolding cosine size mirrored signed
factor_size u n hu hn =
    leb→le _ _ (below 8 (λ m. leb (nat_abs (cosine u m)) 2841)
    (below 8 (λ i. all_to 8 (λ m. leb (nat_abs (cosine i m)) 2841)) tt u hu) n hn)

-- A number that goes to bits and back, as the code's values do.
pub product_back : (w : Width) (a b : ℤ) → SFits w a → SFits w b → to_z w (of_z w a) *ℤ to_z w (of_z w b) ≡ a *ℤ b
product_back w a b f g = ap (λ z. z *ℤ to_z w (of_z w b)) (to_z-of_z f) ∙ ap (λ z. a *ℤ z) (to_z-of_z g)

pub product_as : (w : Width) (r t y : ℤ) → r ≡ t → SFits w t → SFits w y → to_z w (of_z w r) *ℤ to_z w (of_z w y) ≡ t *ℤ y
product_as w r t y e f g = ap (λ z. to_z w (of_z w z) *ℤ to_z w (of_z w y)) e ∙ product_back w t y f g

pub floor_shr : (z : ℤ) (m : ℕ) → shr_z z m ≡ floor z m
unfolding floor
floor_shr (pos a) m = refl
floor_shr (negsuc a) m = refl

-- a sum that is rounded to the nearest, or down, after a division
pub floor_size : (z s : ℤ) (half d m : ℕ) → z ≡ s +ℤ pos half → nat_abs s ≤ m * d → half < d → nat_abs (floor z d) ≤ m
unfolding floor
floor_size (pos a) s half d m e size h =
    let low : a < (m + 1) * d = omega (arith, ints) in
    let q = div_below a d (m + 1) (omega arith) low in omega arith
floor_size (negsuc a) s half d m e size h =
    let low : a < m * d = omega (arith, ints) in div_below a d m (omega arith) low

-- a shift of a sum
pub shift_back : (w : Width) (z : ℤ) (m : ℕ) → SFits w z → to_z w (of_z w (shr_z (to_z w (of_z w z)) m)) ≡ floor z m
shift_back w z m f =
    ap (λ y. to_z w (of_z w (shr_z y m))) (to_z-of_z f)
    ∙ to_z-of_z (record { sfits = lt_of_le_of_lt (mag_shr z m) f.sfits })
    ∙ floor_shr z m
