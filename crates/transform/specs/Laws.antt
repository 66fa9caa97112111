-- The laws that every transform keeps, and that the two keep them. Assumes nothing.
use Rattle.std.specs.Prelude.{◌≡◌, ℕ, zero, suc, ◌+◌, ◌*◌, ◌<◌, List, [], ◌∷◌, map, ℤ, pos, negsuc, ◌+ℤ◌, ◌*ℤ◌, ◌≤ℤ◌, slice_index_or, refl}
use Rattle.std.proofs.Common.{sym, ap, ◌∙◌, arith, zero-add}
use Rattle.std.proofs.Math.Nat.{div-eq_of_lt}
use Rattle.std.proofs.Math.IntN.{*ℤ-zero}
use lib.IntN.{+ℤ_idr, *ℤ_comm}
use Rattle.std.proofs.lemmas.Int.{ints, clamps}
use Rattle.transform.specs.Sums.{sum8, floor, brought}
use Rattle.transform.specs.Factors.{cosine}
use Rattle.transform.specs.Blocks.{Everywhere}
use Rattle.transform.specs.Inverse.{limited, coefficient, ranged, between, twice, once, two_pass, direct}
use Rattle.transform.specs.SumLaws.{times_assoc, sum_same, sum_scale, sum_swap, sum_zeros}

-- results are from -256 to 255
abbrev pub InRange : (List ℤ → ℕ → ℕ → ℤ) → Type 0
InRange f = (xs : List ℤ) → Everywhere (λ n k. (negsuc 255 ≤ℤ f xs n k) × (f xs n k ≤ℤ pos 255))

-- zeros go to zeros
abbrev pub KeepsZeros : (List ℤ → ℕ → ℕ → ℤ) → Type 0
KeepsZeros f = (xs : List ℤ) → Everywhere (λ n k. ((p : ℕ) → slice_index_or xs p (pos 0) ≡ pos 0) → f xs n k ≡ pos 0)

-- a coefficient outside its range is first brought to the nearer end
abbrev pub LimitsFirst : (List ℤ → ℕ → ℕ → ℤ) → Type 0
LimitsFirst f = (xs : List ℤ) → Everywhere (λ n k. f xs n k ≡ f (map limited xs) n k)

-- ---- range
ranged_range : (z : ℤ) → (negsuc 255 ≤ℤ ranged z) × (ranged z ≤ℤ pos 255)
unfolding ranged brought
ranged_range z = (omega (arith, ints, clamps), omega (arith, ints, clamps))

-- ---- one sum that is rounded once: two passes, of which the first keeps its sums whole
whole : (z : ℤ) → floor z 1 ≡ z
unfolding floor
whole (pos a) = ap pos (omega arith)
whole (negsuc a) = ap negsuc (omega arith)

unrounded : (z : ℤ) → floor (z +ℤ pos 0) 1 ≡ z
unrounded z = ap (λ y. floor y 1) (+ℤ_idr z) ∙ whole z

turned : (a b x : ℤ) → b *ℤ (a *ℤ x) ≡ a *ℤ b *ℤ x
turned a b x = sym (times_assoc b a x) ∙ ap (λ z. z *ℤ x) (*ℤ_comm b a)

-- the direct transform's double sum, row by row
separate : (n k : ℕ) (x : ℕ → ℕ → ℤ) → sum8 (λ v. cosine v k *ℤ sum8 (λ u. cosine u n *ℤ x u v)) ≡ sum8 (λ u. sum8 (λ v. cosine u n *ℤ cosine v k *ℤ x u v))
separate n k x =
    sum_same 8 _ _ (λ v h. sum_scale 8 (cosine v k) (λ u. cosine u n *ℤ x u v))
    ∙ sum_swap 8 8 (λ u v. cosine v k *ℤ (cosine u n *ℤ x u v))
    ∙ sum_same 8 _ _ (λ u h. sum_same 8 _ _ (λ v l. turned (cosine u n) (cosine v k) (x u v)))

pub unrounded_rows : (half d : ℕ) (xs : List ℤ) (n k : ℕ) → twice 0 1 half d xs n k ≡ once half d xs n k
unfolding twice between once
unrounded_rows half d xs n k =
    ap (λ z. ranged (floor (z +ℤ pos half) d))
    (sum_same 8 _ _ (λ v h. ap (λ z. cosine v k *ℤ z) (unrounded (sum8 (λ u. cosine u n *ℤ coefficient xs u v)))) ∙ separate n k (coefficient xs))

-- ---- zeros: a coefficient that is 0 stays so
coefficient_zero : (xs : List ℤ) (u v : ℕ) → slice_index_or xs (8 * v + u) (pos 0) ≡ pos 0 → coefficient xs u v ≡ pos 0
unfolding coefficient limited brought
coefficient_zero xs u v e = ap limited e

times_zero : (a x : ℤ) → x ≡ pos 0 → a *ℤ x ≡ pos 0
times_zero a x e = ap (λ z. a *ℤ z) e ∙ *ℤ-zero a

-- a half below the divisor alone is rounded to 0
halves : (half d : ℕ) → half < d → floor (pos 0 +ℤ pos half) d ≡ pos 0
unfolding floor
halves half d h = ap (λ m. floor (pos m) d) (zero-add half) ∙ ap pos (div-eq_of_lt h)

ranged_zero : (half d : ℕ) → half < d → ranged (floor (pos 0 +ℤ pos half) d) ≡ pos 0
unfolding ranged brought
ranged_zero half d h = ap ranged (halves half d h)

between_zero : (half d : ℕ) → half < d → (xs : List ℤ) (n v : ℕ) → ((p : ℕ) → slice_index_or xs p (pos 0) ≡ pos 0) → between half d xs n v ≡ pos 0
unfolding between
between_zero half d h xs n v z =
    ap (λ s. floor (s +ℤ pos half) d) (sum_zeros 8 _ (λ u _. times_zero (cosine u n) _ (coefficient_zero xs u v (z (8 * v + u))))) ∙ halves half d h

twice_zeros : (half d last e : ℕ) → half < d → last < e → (xs : List ℤ) (n k : ℕ) → ((p : ℕ) → slice_index_or xs p (pos 0) ≡ pos 0) → twice half d last e xs n k ≡ pos 0
unfolding twice
twice_zeros half d last e h l xs n k z =
    ap (λ s. ranged (floor (s +ℤ pos last) e)) (sum_zeros 8 _ (λ v _. times_zero (cosine v k) _ (between_zero half d h xs n v z))) ∙ ranged_zero last e l

once_zeros : (half d : ℕ) → half < d → (xs : List ℤ) (n k : ℕ) → ((p : ℕ) → slice_index_or xs p (pos 0) ≡ pos 0) → once half d xs n k ≡ pos 0
once_zeros half d h xs n k z = sym (unrounded_rows half d xs n k) ∙ twice_zeros 0 1 half d (omega arith) h xs n k z

-- ---- ends: to bring a coefficient into its range twice changes nothing
limited_twice : (z : ℤ) → limited z ≡ limited (limited z)
unfolding limited brought
limited_twice z = omega (arith, ints, clamps)

limited_map : (xs : List ℤ) (p : ℕ) → limited (slice_index_or xs p (pos 0)) ≡ limited (slice_index_or (map limited xs) p (pos 0))
limited_map [] p = refl
limited_map (x ∷ xs) zero = limited_twice x
limited_map (x ∷ xs) (suc p) = limited_map xs p

coefficient_ends : (xs : List ℤ) (u v : ℕ) → coefficient xs u v ≡ coefficient (map limited xs) u v
unfolding coefficient
coefficient_ends xs u v = limited_map xs (8 * v + u)

between_ends : (half d : ℕ) (xs : List ℤ) (n v : ℕ) → between half d xs n v ≡ between half d (map limited xs) n v
unfolding between
between_ends half d xs n v = ap (λ s. floor (s +ℤ pos half) d) (sum_same 8 _ _ (λ u h. ap (λ z. cosine u n *ℤ z) (coefficient_ends xs u v)))

twice_ends : (half d last e : ℕ) (xs : List ℤ) (n k : ℕ) → twice half d last e xs n k ≡ twice half d last e (map limited xs) n k
unfolding twice
twice_ends half d last e xs n k =
    ap (λ s. ranged (floor (s +ℤ pos last) e)) (sum_same 8 _ _ (λ v h. ap (λ z. cosine v k *ℤ z) (between_ends half d xs n v)))

once_ends : (half d : ℕ) (xs : List ℤ) (n k : ℕ) → once half d xs n k ≡ once half d (map limited xs) n k
once_ends half d xs n k = sym (unrounded_rows half d xs n k) ∙ twice_ends 0 1 half d xs n k ∙ unrounded_rows half d (map limited xs) n k

-- ---- the two transforms
pub two_pass_range : InRange two_pass
unfolding twice
two_pass_range xs n k hn hk = ranged_range _

pub two_pass_zeros : KeepsZeros two_pass
two_pass_zeros xs n k hn hk = twice_zeros 128 256 65536 131072 (omega arith) (omega arith) xs n k

pub two_pass_ends : LimitsFirst two_pass
two_pass_ends xs n k hn hk = twice_ends 128 256 65536 131072 xs n k

pub direct_range : InRange direct
unfolding once
direct_range xs n k hn hk = ranged_range _

pub direct_zeros : KeepsZeros direct
direct_zeros xs n k hn hk = once_zeros 16777216 33554432 (omega arith) xs n k

pub direct_ends : LimitsFirst direct
direct_ends xs n k hn hk = once_ends 16777216 33554432 xs n k
