-- Motion vectors, a component at a time, in half samples. Assumes nothing.
use Rattle.std.specs.Prelude.{ℕ, ◌+◌, ◌*◌, ◌/◌, ◌%◌, cond, ℤ, pos, ◌+ℤ◌, ◌-ℤ◌, ◌==◌, unsigned_abs}
use Rattle.std.specs.Int.{int_max, int_min, int_rem_euclid}
use Rattle.transform.specs.Signs.{with_sign}

-- the middle one of three
abbrev pub median_of : ℤ → ℤ → ℤ → ℤ
median_of a b c = int_max (int_min a b) (int_min (int_max a b) c)

-- the one number from -32 to 31 that differs from z by a multiple of 64
unfoldable pub wrapped : ℤ → ℤ
wrapped z = int_rem_euclid (z +ℤ pos 32) (pos 64) -ℤ pos 32

-- a component, from its predictor and its difference
abbrev pub vector_of : ℤ → ℤ → ℤ
vector_of predictor difference = wrapped (predictor +ℤ difference)

-- the size of a chroma component, from that of the luma one: half of it, as chroma has half the samples, with a quarter and three quarters of
-- a sample taken as a half
unfoldable pub chroma_size : ℕ → ℕ
chroma_size size = 2 * (size / 4) + cond (size % 4 == 0) 0 1

abbrev pub chroma_of : ℤ → ℤ
chroma_of luma = with_sign luma (chroma_size (unsigned_abs luma))
