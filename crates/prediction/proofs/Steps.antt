-- The ways in which half steps lead, from coordinates that are kept 64 above their value.
use Rattle.std.proofs.Common.{◌≡◌, ℕ, ◌+◌, Bool, ℤ, pos, ◌+ℤ◌, ◌-ℤ◌, ap, ◌∙◌, arith, w8, SFits, to_z, of_z}
use Rattle.std.proofs.lemmas.Int.{ints, to_z-of_z}
use Rattle.pictures.specs.declared.layouts.Segment.{Segment}
use Rattle.samples.specs.Prediction.{predicted}
use Rattle.transform.specs.Sums.{floor}
use Rattle.prediction.specs.Window.{is_half, prediction_at, window}

predicted_same : (r : ℕ) (h k i j : Bool) (a b c d w x y z : ℕ) → h ≡ i → k ≡ j → a ≡ w → b ≡ x → c ≡ y → d ≡ z → predicted r h k a b c d ≡ predicted r i j w x y z
predicted_same r h k i j a b c d w x y z p q e f g l = rw (p, q, e, f, g, l)

-- u and v are x and y moved by the whole samples of a vector; i and j lead further on, across and down
module _ (s : Segment) (rounding : ℕ) (picture : ℕ → ℕ → ℕ → ℕ) (p x y u v : ℕ) (across down : ℤ) (i j : ℕ)
    (fits_across : SFits w8 across) (fits_down : SFits w8 down)
    (right : pos u ≡ pos x +ℤ floor (to_z w8 (of_z w8 across)) 2 +ℤ pos 64) (below : pos v ≡ pos y +ℤ floor (to_z w8 (of_z w8 down)) 2 +ℤ pos 64) where
  abbrev pub seen : ℕ → ℕ → ℕ
  seen m n = window s picture p (pos (m + i) -ℤ pos 64) (pos (n + j) -ℤ pos 64)

  seen_is : (m n : ℕ) (z w : ℤ) → pos (m + i) -ℤ pos 64 ≡ z → pos (n + j) -ℤ pos 64 ≡ w → seen m n ≡ window s picture p z w
  seen_is m n z w e f = ap (λ t. window s picture p t (pos (n + j) -ℤ pos 64)) e ∙ ap (window s picture p z) f

  here_u : pos (u + i) -ℤ pos 64 ≡ pos (x + i) +ℤ floor across 2
  here_u = let e = right ∙ ap (λ z. pos x +ℤ floor z 2 +ℤ pos 64) (to_z-of_z w8 across fits_across) in omega (arith, ints)

  next_u : pos (u + 1 + i) -ℤ pos 64 ≡ pos (x + i) +ℤ floor across 2 +ℤ pos 1
  next_u = omega (arith, ints, here_u)

  here_v : pos (v + j) -ℤ pos 64 ≡ pos (y + j) +ℤ floor down 2
  here_v = let e = below ∙ ap (λ z. pos y +ℤ floor z 2 +ℤ pos 64) (to_z-of_z w8 down fits_down) in omega (arith, ints)

  next_v : pos (v + 1 + j) -ℤ pos 64 ≡ pos (y + j) +ℤ floor down 2 +ℤ pos 1
  next_v = omega (arith, ints, here_v)

  -- a to d are the samples there, right, below, and both, as far as they count
  pub led : (h k : Bool) (a b c d : ℕ) → h ≡ is_half (to_z w8 (of_z w8 across)) → k ≡ is_half (to_z w8 (of_z w8 down))
      → a ≡ seen u v → b ≡ seen (u + 1) v → c ≡ seen u (v + 1) → d ≡ seen (u + 1) (v + 1)
      → predicted rounding h k a b c d ≡ prediction_at s rounding picture p (x + i) (y + j) across down
  unfolding prediction_at
  led h k a b c d eh ek ea eb ec ed =
      predicted_same rounding h k _ _ a b c d _ _ _ _
      (eh ∙ ap is_half (to_z-of_z w8 across fits_across)) (ek ∙ ap is_half (to_z-of_z w8 down fits_down))
      (ea ∙ seen_is u v _ _ here_u here_v) (eb ∙ seen_is (u + 1) v _ _ next_u here_v)
      (ec ∙ seen_is u (v + 1) _ _ here_u next_v) (ed ∙ seen_is (u + 1) (v + 1) _ _ next_u next_v)
