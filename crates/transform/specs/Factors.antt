-- The factors of the inverse transforms: cosine u n is 2048 times the square root of 2 times cos ((2n + 1) u pi / 16), rounded, and
-- 2048 for u = 0. Seven sizes serve all of them, since a cosine repeats, mirrored and with its sign turned. Assumes nothing.
use Rattle.std.specs.Prelude.{ℕ, zero, suc, ◌+◌, ◌-◌, ◌*◌, ◌%◌, cond, [], ◌∷◌, ℤ, pos, neg_ℤ, nat_lt, slice_index}

-- the size for an angle of m times pi / 16, for m from 1 to 7
unfoldable pub size : ℕ → ℤ
size m = pos (slice_index (0 ∷ 2841 ∷ 2676 ∷ 2408 ∷ 2048 ∷ 1609 ∷ 1108 ∷ 565 ∷ []) m)

-- an angle of m parts, 32 to the full circle: 32 - m if above 16
unfoldable pub mirrored : ℕ → ℕ
mirrored m = cond (nat_lt 16 m) (32 - m) m

-- past a quarter of the circle the sign turns
unfoldable pub signed : ℕ → ℤ
signed m = cond (nat_lt m 8) (size m) (neg_ℤ (size (16 - m)))

unfoldable pub cosine : ℕ → ℕ → ℤ
cosine zero n = pos 2048
cosine (suc u) n = signed (mirrored ((2 * n + 1) * suc u % 32))
