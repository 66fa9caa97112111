-- The terms and sums of a row: their sizes, and what zeros in it leave out. Assumes nothing.
use Rattle.std.proofs.Common.{◌≡◌, ℕ, zero, suc, ◌+◌, ◌-◌, ◌*◌, ◌^◌, ◌<◌, ◌≤◌, List, [], ◌∷◌, get_or, ℤ, pos, negsuc, ◌+ℤ◌, ◌-ℤ◌, ◌*ℤ◌, nat_abs, sym, ap, ◌∙◌, subst, mul-le-mul_right, arith, to_z-of_z, w32, w64, SFits, to_z, of_z}
use Rattle.std.proofs.lemmas.Int.{ints}
use Rattle.std.proofs.lemmas.Nat.{mul-le}
use Rattle.std.proofs.Math.IntN.{*ℤ-zero}
use lib.IntN.{*ℤ_comm}
use Rattle.transform.specs.Sums.{sum_to, sum8, floor}
use Rattle.transform.specs.SumLaws.{sum_same, times_sum}
use Rattle.transform.specs.Factors.{cosine, size, mirrored, signed}
use Rattle.transform.specs.Passes.{Small, SmallRow, ZeroAt, half_sum, weighed_row, rounded_sum, term, weighed}
use Rattle.transform.proofs.Finite.{all_to, below, eq_z, eq_z_eq}
use Rattle.transform.proofs.Sizes.{abs_product, factor_size, factors_size, fits_size, product_as, sum_size}

-- what holds of the eight places of a row
pub cases8 : (P : ℕ → Type 0) → P 0 → P 1 → P 2 → P 3 → P 4 → P 5 → P 6 → P 7 → (u : ℕ) → u < 8 → P u
cases8 P a b c d e f g h zero l = a
cases8 P a b c d e f g h (suc zero) l = b
cases8 P a b c d e f g h (suc (suc zero)) l = c
cases8 P a b c d e f g h (suc (suc (suc zero))) l = d
cases8 P a b c d e f g h (suc (suc (suc (suc zero)))) l = e
cases8 P a b c d e f g h (suc (suc (suc (suc (suc zero))))) l = f
cases8 P a b c d e f g h (suc (suc (suc (suc (suc (suc zero)))))) l = g
cases8 P a b c d e f g h (suc (suc (suc (suc (suc (suc (suc zero))))))) l = h
cases8 P a b c d e f g h (suc (suc (suc (suc (suc (suc (suc (suc u)))))))) l = absurd (omega arith)

-- ---- a term
size_32 : (z : ℤ) → SFits w32 z → nat_abs z ≤ 2 ^ 31
size_32 (pos n) f = let h : n < 2 ^ 31 = f.sfits in omega arith
size_32 (negsuc n) f = let h : n < 2 ^ 31 = f.sfits in omega arith

module _ (x : List ℤ) (u n : ℕ) (r y : ℤ) (hu : u < 8) (hn : n < 8) (er : r ≡ cosine u n) (fits : SFits w32 (get_or x u (pos 0))) (ey : y ≡ get_or x u (pos 0)) where
  term_size : nat_abs (term x n u) ≤ 2841 * 2 ^ 31
  unfolding term
  term_size =
      let h = mul-le _ _ _ _ (factor_size u n hu hn) (size_32 (get_or x u (pos 0)) fits) in
      omega (arith, abs_product (cosine u n) (get_or x u (pos 0)))

  pub product_is : to_z w64 (of_z w64 r) *ℤ to_z w64 (of_z w64 y) ≡ term x n u
  unfolding term
  product_is =
      ap (λ z. to_z w64 (of_z w64 r) *ℤ to_z w64 (of_z w64 z)) ey
      ∙ product_as w64 r (cosine u n) _ er (fits_size w64 _ (let h = factor_size u n hu hn in omega arith))
      (fits_size w64 _ (let h = size_32 (get_or x u (pos 0)) fits in omega arith))

  pub product_fits : SFits w64 (to_z w64 (of_z w64 r) *ℤ to_z w64 (of_z w64 y))
  product_fits = subst (SFits w64) (sym product_is) (fits_size w64 _ (let h = term_size in omega arith))

  pub product_back : to_z w64 (of_z w64 (to_z w64 (of_z w64 r) *ℤ to_z w64 (of_z w64 y))) ≡ term x n u
  product_back = to_z-of_z product_fits ∙ product_is

  pub product_size : nat_abs (to_z w64 (of_z w64 (to_z w64 (of_z w64 r) *ℤ to_z w64 (of_z w64 y)))) < 2 ^ 43
  product_size = subst (λ z. nat_abs z < 2 ^ 43) (sym product_back) (let h = term_size in omega arith)

-- ---- sums and differences of what goes to bits and back
abbrev pub back : ℤ → ℤ
back z = to_z w64 (of_z w64 z)

abbrev pub back32 : ℤ → ℤ
back32 z = to_z w32 (of_z w32 z)

plus_back : (a b : ℤ) → nat_abs a < 2 ^ 61 → nat_abs b < 2 ^ 61 → back (back a +ℤ back b) ≡ a +ℤ b
plus_back a b h i = omega (arith, ints)

minus_back : (a b : ℤ) → nat_abs a < 2 ^ 61 → nat_abs b < 2 ^ 61 → back (back a -ℤ back b) ≡ a -ℤ b
minus_back a b h i = omega (arith, ints)

pub four_back : (a b c d : ℤ) → nat_abs a < 2 ^ 43 → nat_abs b < 2 ^ 43 → nat_abs c < 2 ^ 43 → nat_abs d < 2 ^ 43
    → back (back (back (back a +ℤ back b) +ℤ back c) +ℤ back d) ≡ a +ℤ b +ℤ c +ℤ d
four_back a b c d h i j k =
    let first : back a +ℤ back b ≡ a +ℤ b = omega (arith, ints) in
    let second : back (back a +ℤ back b) +ℤ back c ≡ a +ℤ b +ℤ c = ap (λ z. back z +ℤ back c) first ∙ omega (arith, ints) in
    ap (λ z. back (back z +ℤ back d)) second ∙ plus_back (a +ℤ b +ℤ c) d (omega (arith, ints)) (omega arith)

pub four_size : (a b c d : ℤ) → nat_abs a < 2 ^ 43 → nat_abs b < 2 ^ 43 → nat_abs c < 2 ^ 43 → nat_abs d < 2 ^ 43 → nat_abs (a +ℤ b +ℤ c +ℤ d) < 2 ^ 45
four_size a b c d h i j k = omega (arith, ints)

-- ---- the sum from its even and odd terms
joined : (t : ℕ → ℤ) → (t 0 +ℤ t 2 +ℤ t 4 +ℤ t 6) +ℤ (t 1 +ℤ t 3 +ℤ t 5 +ℤ t 7) ≡ sum8 t
unfolding sum_to
joined t = omega (arith, ints)

pub near : (x : List ℤ) (n : ℕ) (e o : ℤ) → e ≡ half_sum x n 0 → o ≡ half_sum x n 1 → nat_abs e < 2 ^ 45 → nat_abs o < 2 ^ 45 → back (back e +ℤ back o) ≡ weighed_row x n
unfolding weighed_row term
near x n e o p q h i = plus_back e o (omega arith) (omega arith) ∙ ap (λ z. z +ℤ o) p ∙ ap (λ z. half_sum x n 0 +ℤ z) q ∙ joined (term x n)

-- the factors of even u are the same at n and 7 - n across, those of odd u have their signs turned
even_factor : (u n : ℕ) → u < 4 → n < 4 → cosine (2 * u) (7 - n) ≡ cosine (2 * u) n
unfolding cosine size mirrored signed
even_factor u n hu hn =
    eq_z_eq _ _ (below 4 (λ m. eq_z (cosine (2 * u) (7 - m)) (cosine (2 * u) m))
    (below 4 (λ j. all_to 4 (λ m. eq_z (cosine (2 * j) (7 - m)) (cosine (2 * j) m))) tt u hu) n hn)

odd_factor : (u n : ℕ) → u < 4 → n < 4 → cosine (2 * u + 1) (7 - n) +ℤ cosine (2 * u + 1) n ≡ pos 0
unfolding cosine size mirrored signed
odd_factor u n hu hn =
    eq_z_eq _ _ (below 4 (λ m. eq_z (cosine (2 * u + 1) (7 - m) +ℤ cosine (2 * u + 1) m) (pos 0))
    (below 4 (λ j. all_to 4 (λ m. eq_z (cosine (2 * j + 1) (7 - m) +ℤ cosine (2 * j + 1) m) (pos 0))) tt u hu) n hn)

even_term : (x : List ℤ) (u n : ℕ) → u < 4 → n < 4 → term x (7 - n) (2 * u) ≡ term x n (2 * u)
unfolding term
even_term x u n hu hn = ap (λ z. z *ℤ get_or x (2 * u) (pos 0)) (even_factor u n hu hn)

opposite : (a b y : ℤ) → a +ℤ b ≡ pos 0 → a *ℤ y +ℤ b *ℤ y ≡ pos 0
opposite a b y e =
    ap (λ z. z +ℤ b *ℤ y) (*ℤ_comm a y) ∙ ap (λ z. y *ℤ a +ℤ z) (*ℤ_comm b y)
    ∙ sym (times_sum y a b) ∙ ap (λ z. y *ℤ z) e ∙ *ℤ-zero y

odd_term : (x : List ℤ) (u n : ℕ) → u < 4 → n < 4 → term x (7 - n) (2 * u + 1) +ℤ term x n (2 * u + 1) ≡ pos 0
unfolding term
odd_term x u n hu hn = opposite _ _ (get_or x (2 * u + 1) (pos 0)) (odd_factor u n hu hn)

turned : (s t : ℕ → ℤ) → s 0 ≡ t 0 → s 2 ≡ t 2 → s 4 ≡ t 4 → s 6 ≡ t 6
    → s 1 +ℤ t 1 ≡ pos 0 → s 3 +ℤ t 3 ≡ pos 0 → s 5 +ℤ t 5 ≡ pos 0 → s 7 +ℤ t 7 ≡ pos 0
    → (t 0 +ℤ t 2 +ℤ t 4 +ℤ t 6) -ℤ (t 1 +ℤ t 3 +ℤ t 5 +ℤ t 7) ≡ sum8 s
unfolding sum_to
turned s t a b c d e f g h = omega (arith, ints)

odd_taken : (x : List ℤ) (n : ℕ) → n < 4 → half_sum x n 0 -ℤ half_sum x n 1 ≡ weighed_row x (7 - n)
unfolding weighed_row term
odd_taken x n h =
    turned (term x (7 - n)) (term x n) (even_term x 0 n (omega arith) h) (even_term x 1 n (omega arith) h) (even_term x 2 n (omega arith) h) (even_term x 3 n (omega arith) h)
    (odd_term x 0 n (omega arith) h) (odd_term x 1 n (omega arith) h) (odd_term x 2 n (omega arith) h) (odd_term x 3 n (omega arith) h)

pub far : (x : List ℤ) (n : ℕ) (e o : ℤ) → n < 4 → e ≡ half_sum x n 0 → o ≡ half_sum x n 1 → nat_abs e < 2 ^ 45 → nat_abs o < 2 ^ 45 → back (back e -ℤ back o) ≡ weighed_row x (7 - n)
far x n e o l p q h i = minus_back e o (omega arith) (omega arith) ∙ ap (λ z. z -ℤ o) p ∙ ap (λ z. half_sum x n 0 -ℤ z) q ∙ odd_taken x n l

-- ---- sizes, and rows that are alike
sum_small : (h : ℕ) (x : ℕ → ℤ) (n : ℕ) → ((u : ℕ) → u < 8 → nat_abs (x u) ≤ h) → n < 8 → nat_abs (sum8 (λ u. cosine u n *ℤ x u)) ≤ 15303 * h
sum_small h x n small hn =
    let p = sum_size 8 (λ u. cosine u n) x h small in
    let q = mul-le-mul_right h (factors_size 8 n (omega arith) hn) in
    omega arith

pub weighed_size : (h : ℕ) (xs : List ℤ) (n v : ℕ) → Small h xs → n < 8 → v < 8 → nat_abs (weighed xs n v) ≤ 15303 * h
unfolding weighed
weighed_size h xs n v small hn hv = sum_small h (λ u. get_or xs (8 * v + u) (pos 0)) n (λ u k. small (8 * v + u) (omega arith)) hn

pub same_row : (x y : List ℤ) (half d n : ℕ) → ((u : ℕ) → u < 8 → get_or x u (pos 0) ≡ get_or y u (pos 0)) → rounded_sum x half d n ≡ rounded_sum y half d n
unfolding rounded_sum weighed_row
same_row x y half d n e = ap (λ z. floor (z +ℤ pos half) d) (sum_same 8 _ _ (λ u h. ap (λ z. cosine u n *ℤ z) (e u h)))

-- a row of which only the first number is not 0
first_only : (t : ℕ → ℤ) → ((u : ℕ) → 1 ≤ u → u < 8 → t u ≡ pos 0) → sum8 t ≡ t 0
unfolding sum_to
first_only t z =
    let a = z 1 (omega arith) (omega arith) in
    let b = z 2 (omega arith) (omega arith) in
    let c = z 3 (omega arith) (omega arith) in
    let d = z 4 (omega arith) (omega arith) in
    let e = z 5 (omega arith) (omega arith) in
    let f = z 6 (omega arith) (omega arith) in
    let g = z 7 (omega arith) (omega arith) in
    omega (arith, ints, a, b, c, d, e, f, g)

pub flat : (x : List ℤ) (n : ℕ) → ((u : ℕ) → 1 ≤ u → u < 8 → get_or x u (pos 0) ≡ pos 0) → weighed_row x n ≡ term x 0 0
unfolding weighed_row term cosine
flat x n z = first_only (λ u. cosine u n *ℤ get_or x u (pos 0)) (λ u h i. ap (λ y. cosine u n *ℤ y) (z u h i) ∙ *ℤ-zero (cosine u n))

-- ---- a sum as the code passes it on, and rounds it
pub quotient_of : (d : ℕ) (x : List ℤ) (n : ℕ) (s : ℤ) → s ≡ weighed_row x n → nat_abs s < 2 ^ 46 → n < 8 → SmallRow (2 ^ 17 * d) x → nat_abs (back s) ≤ 2147483647 * d
unfolding weighed_row
quotient_of d x n s e size hn small =
    let p = sum_small (2 ^ 17 * d) (λ u. get_or x u (pos 0)) n small hn in
    let is : back s ≡ s = omega (arith, ints) in
    subst (λ z. nat_abs z ≤ 2147483647 * d) (sym (is ∙ e)) (omega arith)

pub quotient_is : (half d : ℕ) (x : List ℤ) (n : ℕ) (s r : ℤ) → s ≡ weighed_row x n → nat_abs s < 2 ^ 46 → SFits w32 r → r ≡ floor (back s +ℤ pos half) d → back32 r ≡ rounded_sum x half d n
unfolding rounded_sum
quotient_is half d x n s r e size fits is =
    let plain : back s ≡ s = omega (arith, ints) in
    to_z-of_z fits ∙ is ∙ ap (λ z. floor (z +ℤ pos half) d) (plain ∙ e)

-- ---- rows with zeros, as the code reads and writes them
module _ (x : List ℤ) (last : ZeroAt x 4 × ZeroAt x 5 × ZeroAt x 6 × ZeroAt x 7) where
  abbrev pub half_row : List ℤ
  half_row =
      back32 (get_or x 0 (pos 0)) ∷ back32 (get_or x 1 (pos 0)) ∷ back32 (get_or x 2 (pos 0)) ∷ back32 (get_or x 3 (pos 0)) ∷ pos 0 ∷ pos 0 ∷ pos 0 ∷ pos 0 ∷ []

  pub half_row_is : ((u : ℕ) → u < 4 → SFits w32 (get_or x u (pos 0))) → (u : ℕ) → u < 8 → get_or half_row u (pos 0) ≡ get_or x u (pos 0)
  half_row_is fits =
      cases8 (λ u. get_or half_row u (pos 0) ≡ get_or x u (pos 0))
      (to_z-of_z (fits 0 (omega arith))) (to_z-of_z (fits 1 (omega arith))) (to_z-of_z (fits 2 (omega arith))) (to_z-of_z (fits 3 (omega arith)))
      (sym last.0) (sym last.1) (sym last.2) (sym last.3)

  pub flat_from : ZeroAt x 1 × ZeroAt x 2 × ZeroAt x 3 → (u : ℕ) → 1 ≤ u → u < 8 → ZeroAt x u
  flat_from rest u h l = cases8 (λ k. 1 ≤ k → ZeroAt x k) (λ i. absurd (omega arith)) (λ i. rest.0) (λ i. rest.1) (λ i. rest.2) (λ i. last.0) (λ i. last.1) (λ i. last.2) (λ i. last.3) u l h
