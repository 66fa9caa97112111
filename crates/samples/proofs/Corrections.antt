-- The filter's signed corrections by their sizes and by which side is greater. Assumes nothing.
use Rattle.std.proofs.Common.{◌≡◌, ℕ, zero, suc, ◌+◌, ◌-◌, ◌*◌, ◌/◌, ◌<◌, ◌≤◌, min, Bool, true, false, cond, not, leb, ltb, ℤ, pos, negsuc, ◌+ℤ◌, ◌-ℤ◌, neg_ℤ, nat_abs, sym, refl, ap, ◌∙◌, inl, inr, arith}
use Rattle.std.proofs.Math.Nat.{zero-div}
use Rattle.std.proofs.lemmas.Int.{ints, clamps}
use Rattle.std.proofs.lemmas.Bool.Decides.{leb_tells, nat_tests}
use Rattle.transform.specs.Signs.{with_sign}
use Rattle.transform.specs.Sums.{brought}
use Rattle.transform.proofs.Sizes.{abs_neg}
use Rattle.samples.specs.Clipping.{clipped}
use Rattle.samples.specs.Deblocking.{quotient, step_of, inner_of, outer_of, new_a, new_d}
use Rattle.samples.specs.declared.deblocking.Four.{Four}

-- ---- a number by its size, and by whether it leads up
abbrev pub directed : Bool → ℕ → ℤ
directed true n = pos n
directed false n = neg_ℤ (pos n)

size_is : (up : Bool) (n : ℕ) → nat_abs (directed up n) ≡ n
size_is true n = refl
size_is false n = abs_neg n

-- another size that takes its sign, and is 0 where it is
sign_taken : (up : Bool) (m n : ℕ) → (m ≡ 0 → n ≡ 0) → with_sign (directed up m) n ≡ directed up n
unfolding with_sign
sign_taken true m n z = refl
sign_taken false zero n z = let e : n ≡ 0 = z refl in omega (arith, ints)
sign_taken false (suc m) n z = refl

quotient_is : (up : Bool) (m n : ℕ) → quotient (directed up m) n ≡ directed up (m / n)
unfolding quotient
quotient_is up m n =
    ap (λ k. with_sign (directed up m) (k / n)) (size_is up m) ∙ sign_taken up m (m / n) (λ e. ap (λ k. k / n) e ∙ zero-div n)

within : (up : Bool) (m n : ℕ) → brought (neg_ℤ (pos m)) (pos m) (directed up n) ≡ directed up (min n m)
unfolding brought
within true m n = omega (arith, ints, clamps)
within false m n = omega (arith, ints, clamps)

abbrev apart : ℕ → ℕ → ℕ
apart m n = (m - n) + (n - m)

difference_is : (m n : ℕ) → pos m -ℤ pos n ≡ directed (leb n m) (apart m n)
difference_is m n = elim (leb_tells n m) [ inl h ↦ simp (h.0) (omega (arith, ints, h.1)) | inr h ↦ simp (h.0) (omega (arith, ints, h.1)) ]

-- ---- d: the step
abbrev up : Four → ℕ
up f = f.a + 4 * f.c

abbrev down : Four → ℕ
down f = 4 * f.b + f.d

sides : (f : Four) → pos f.a -ℤ pos (4 * f.b) +ℤ pos (4 * f.c) -ℤ pos f.d ≡ pos (up f) -ℤ pos (down f)
sides f = omega (arith, ints)

step_is : (f : Four) → step_of f ≡ directed (leb (down f) (up f)) (apart (up f) (down f) / 8)
unfolding step_of
step_is f = ap (λ z. quotient z 8) (sides f ∙ difference_is (up f) (down f)) ∙ quotient_is _ _ 8

-- ---- d1
abbrev pub ramp : ℕ → ℕ → ℕ
ramp strength size = size - 2 * (size - strength)

inner_is : (s : ℕ) (f : Four) → inner_of s f ≡ directed (leb (down f) (up f)) (ramp s (apart (up f) (down f) / 8))
unfolding inner_of
inner_is s f =
    let b = leb (down f) (up f) in
    let size = apart (up f) (down f) / 8 in
    ap (λ z. with_sign z (ramp s (nat_abs z))) (step_is f) ∙ ap (λ k. with_sign (directed b size) (ramp s k)) (size_is b size) ∙ sign_taken b size (ramp s size) (λ e. omega arith)

pub inner_size : (s : ℕ) (f : Four) → nat_abs (inner_of s f) ≡ ramp s (apart (up f) (down f) / 8)
inner_size s f = ap nat_abs (inner_is s f) ∙ size_is _ _

-- ---- d2
abbrev pub outer_size : ℕ → Four → ℕ
outer_size s f = min (apart f.a f.d / 4) (nat_abs (inner_of s f) / 2)

half_size : (s : ℕ) (f : Four) → nat_abs (quotient (inner_of s f) 2) ≡ nat_abs (inner_of s f) / 2
half_size s f =
    ap (λ z. nat_abs (quotient z 2)) (inner_is s f) ∙ ap nat_abs (quotient_is _ _ 2) ∙ size_is _ _ ∙ ap (λ k. k / 2) (sym (inner_size s f))

outer_is : (s : ℕ) (f : Four) → outer_of s f ≡ directed (leb f.d f.a) (outer_size s f)
unfolding outer_of
outer_is s f =
    ap (λ m. brought (neg_ℤ (pos m)) (pos m) (quotient (pos f.a -ℤ pos f.d) 4)) (half_size s f)
    ∙ ap (λ z. brought (neg_ℤ (pos (nat_abs (inner_of s f) / 2))) (pos (nat_abs (inner_of s f) / 2)) z) (ap (λ z. quotient z 4) (difference_is f.a f.d) ∙ quotient_is _ _ 4)
    ∙ within (leb f.d f.a) (nat_abs (inner_of s f) / 2) (apart f.a f.d / 4)

pub outer_size_is : (s : ℕ) (f : Four) → nat_abs (outer_of s f) ≡ outer_size s f
outer_size_is s f = ap nat_abs (outer_is s f) ∙ size_is _ _

-- ---- samples that are raised or lowered by n
clipped_sub : (x n : ℕ) (z : ℤ) → x < 256 → z ≡ pos x -ℤ pos n → x - n ≡ clipped z
clipped_sub x n (pos k) h e = omega (arith, ints)
clipped_sub x n (negsuc k) h e = omega (arith, ints)

added : (x n : ℕ) (up : Bool) → x < 256 → cond up (min (x + n) 255) (x - n) ≡ clipped (pos x +ℤ directed up n)
added x n true h = refl
added x n false h = clipped_sub x n _ h (omega (arith, ints))

other_way : (x n : ℕ) (up : Bool) → pos x +ℤ directed (not up) n ≡ pos x -ℤ directed up n
other_way x n true = omega (arith, ints)
other_way x n false = omega (arith, ints)

taken : (x n : ℕ) (up : Bool) → x < 256 → cond (not up) (min (x + n) 255) (x - n) ≡ clipped (pos x -ℤ directed up n)
taken x n up h = added x n (not up) h ∙ ap clipped (other_way x n up)

-- b and c
pub inner_moved : (s : ℕ) (f : Four) (n u d : ℕ) → n ≡ nat_abs (inner_of s f) → u ≡ up f → d ≡ down f → f.b < 256 → f.c < 256
    → (cond (leb d u) (min (f.b + n) 255) (f.b - n) ≡ clipped (pos f.b +ℤ inner_of s f)) × (cond (not (leb d u)) (min (f.c + n) 255) (f.c - n) ≡ clipped (pos f.c -ℤ inner_of s f))
inner_moved s f n u d e i j hb hc =
    let size = e ∙ inner_size s f in
    let is : inner_of s f ≡ directed (leb d u) n = rw (size, i, j) (inner_is s f) in
    (added f.b n (leb d u) hb ∙ ap (λ z. clipped (pos f.b +ℤ z)) (sym is), taken f.c n (leb d u) hc ∙ ap (λ z. clipped (pos f.c -ℤ z)) (sym is))

-- a and d move towards each other, no further than they are apart
towards : (a d n : ℕ) → n ≤ apart a d → a < 256 → d < 256
    → (pos (cond (ltb a d) (min (a + n) 255) (a - n)) ≡ pos a -ℤ directed (leb d a) n) × (pos (cond (not (ltb a d)) (min (d + n) 255) (d - n)) ≡ pos d +ℤ directed (leb d a) n)
towards a d n bound ha hd =
    elim (leb_tells d a) [
      | inl h ↦ let w : ltb a d ≡ false = grind (arith, nat_tests, h.1) in let z : min (d + n) 255 ≡ d + n = omega (arith, h.1) in simp (h.0, w, z) (omega (arith, ints, h.1), omega (arith, ints, h.1))
      | inr h ↦ let w : ltb a d ≡ true = grind (arith, nat_tests, h.1) in let z : min (a + n) 255 ≡ a + n = omega (arith, h.1) in simp (h.0, w, z) (omega (arith, ints, h.1), omega (arith, ints, h.1))
    ]

pub outer_moved : (s : ℕ) (f : Four) (n : ℕ) → n ≡ nat_abs (outer_of s f) → f.a < 256 → f.d < 256
    → (pos (cond (ltb f.a f.d) (min (f.a + n) 255) (f.a - n)) ≡ new_a s f) × (pos (cond (not (ltb f.a f.d)) (min (f.d + n) 255) (f.d - n)) ≡ new_d s f)
unfolding new_a new_d
outer_moved s f n e ha hd =
    let size = e ∙ outer_size_is s f in
    let is : outer_of s f ≡ directed (leb f.d f.a) n = rw size (outer_is s f) in
    let w = towards f.a f.d n (omega (arith, size)) ha hd in
    (w.0 ∙ ap (λ z. pos f.a -ℤ z) (sym is), w.1 ∙ ap (λ z. pos f.d +ℤ z) (sym is))
