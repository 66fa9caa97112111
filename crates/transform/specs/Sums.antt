-- Sums of integers, quotients that are rounded down, and ranges. Assumes nothing.
use Rattle.std.specs.Prelude.{ℕ, zero, suc, ◌/◌, ℤ, pos, negsuc, ◌+ℤ◌}
use Rattle.std.specs.Int.{int_max, int_min}

-- the sum of the first n of f 0, f 1, ..
unfoldable pub sum_to : ℕ → (ℕ → ℤ) → ℤ
sum_to zero f = pos 0
sum_to (suc n) f = sum_to n f +ℤ f n

-- the sum of f 0 to f 7
abbrev pub sum8 : (ℕ → ℤ) → ℤ
sum8 f = sum_to 8 f

-- floor (z / d): -(a + 1) is divided like a, and goes one further down
unfoldable pub floor : ℤ → ℕ → ℤ
floor (pos a) d = pos (a / d)
floor (negsuc a) d = negsuc (a / d)

-- z, brought to the nearer end if it is not from low to high
unfoldable pub brought : ℤ → ℤ → ℤ → ℤ
brought low high z = int_max low (int_min z high)
