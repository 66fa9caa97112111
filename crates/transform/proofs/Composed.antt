-- Two passes, one over the rows and one over the columns, are the transform by two passes. Assumes nothing.
use Rattle.std.proofs.Common.{◌≡◌, ℕ, ◌+◌, ◌*◌, ◌/◌, ◌%◌, ◌<◌, ◌≤◌, List, get_or, ℤ, pos, ◌+ℤ◌, ◌*ℤ◌, nat_abs, sym, refl, ap, ◌∙◌, subst, arith}
use Rattle.std.proofs.lemmas.Int.{ints, clamps}
use Rattle.transform.specs.Sums.{sum8, floor, brought}
use Rattle.transform.specs.Factors.{cosine}
use Rattle.transform.specs.Inverse.{limited, coefficient, ranged, between, twice}
use Rattle.transform.specs.Blocks.{Gives}
use Rattle.transform.specs.Passes.{weighed, after_pass, Small}
use Rattle.transform.proofs.Sizes.{floor_size}
use Rattle.transform.proofs.Rows.{weighed_size}
use Rattle.transform.specs.SumLaws.{sum_same}

-- the coefficients within their range
abbrev pub in_range : List ℤ → ℕ → ℤ
in_range xs p = limited (get_or xs p (pos 0))

-- ---- sizes
limited_size : (z : ℤ) → nat_abs (limited z) ≤ 2048
unfolding limited brought
limited_size z = omega (arith, ints, clamps)

pub small_in : (h : ℕ) (xs ws : List ℤ) → Gives ws (in_range xs) → 2048 ≤ h → Small h ws
small_in h xs ws e le p lt = subst (λ z. nat_abs z ≤ h) (sym (e p lt)) (let b = limited_size (get_or xs p (pos 0)) in omega arith)

pub small_after : (h m : ℕ) (ws gs : List ℤ) (half d : ℕ) → Gives gs (after_pass ws half d) → Small h ws → 15303 * h ≤ m * d → half < d → Small m gs
unfolding after_pass
small_after h m ws gs half d e small le low p lt =
    let w = weighed_size h ws (p / 8) (p % 8) small (omega arith) (omega arith) in
    subst (λ z. nat_abs z ≤ m) (sym (e p lt)) (floor_size _ (weighed ws (p / 8) (p % 8)) half d m refl (omega arith) low)

-- ---- a pass, at a place that is written by its row and column
at_place : (ws : List ℤ) (half d n v : ℕ) → v < 8 → after_pass ws half d (8 * n + v) ≡ floor (weighed ws n v +ℤ pos half) d
unfolding after_pass
at_place ws half d n v h =
    let q : (8 * n + v) / 8 ≡ n = omega arith in
    let r : (8 * n + v) % 8 ≡ v = omega arith in
    ap (λ i. floor (weighed ws i ((8 * n + v) % 8) +ℤ pos half) d) q ∙ ap (λ j. floor (weighed ws n j +ℤ pos half) d) r

rows : (xs ws : List ℤ) → Gives ws (in_range xs) → (n v : ℕ) → v < 8 → weighed ws n v ≡ sum8 (λ u. cosine u n *ℤ coefficient xs u v)
unfolding weighed coefficient
rows xs ws e n v h = sum_same 8 _ _ (λ u k. ap (λ z. cosine u n *ℤ z) (e (8 * v + u) (omega arith)))

-- the second pass over what the first gave, f n v
columns : (gs : List ℤ) (f : ℕ → ℕ → ℤ) (n k : ℕ) → n < 8 → ((v : ℕ) → v < 8 → get_or gs (8 * n + v) (pos 0) ≡ f n v) → weighed gs k n ≡ sum8 (λ v. cosine v k *ℤ f n v)
unfolding weighed
columns gs f n k h e = sum_same 8 _ _ (λ v l. ap (λ z. cosine v k *ℤ z) (e v l))

module _ (xs ws gs rs out : List ℤ) (last d : ℕ) (wide : Gives ws (in_range xs)) (narrow : Gives out (λ p. ranged (get_or rs p (pos 0)))) (second : Gives rs (after_pass gs last d)) where
  pub twice_is : (half e : ℕ) → Gives gs (after_pass ws half e) → (n k : ℕ) → n < 8 → k < 8 → get_or out (8 * k + n) (pos 0) ≡ twice half e last d xs n k
  unfolding twice between
  twice_is half e first n k hn hk =
      narrow (8 * k + n) (omega arith)
      ∙ ap ranged (second (8 * k + n) (omega arith) ∙ at_place gs last d k n hn
      ∙ ap (λ z. floor (z +ℤ pos last) d) (columns gs (between half e xs) n k hn
      (λ v h. first (8 * n + v) (omega arith) ∙ at_place ws half e n v h ∙ ap (λ z. floor (z +ℤ pos half) e) (rows xs ws wide n v h))))
