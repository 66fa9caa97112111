-- The standard's generator of random numbers. Assumes nothing.
use Rattle.std.specs.Prelude.{ℕ, zero, suc, ◌+◌, ◌*◌, ◌/◌, ◌%◌, ◌^◌, ℤ, pos, ◌-ℤ◌}

-- the state after another
unfoldable pub stepped : ℕ → ℕ
stepped state = (state * 1103515245 + 12345) % 2 ^ 32

-- the state after so many more
unfoldable pub stepped_by : ℕ → ℕ → ℕ
stepped_by zero state = state
stepped_by (suc n) state = stepped (stepped_by n state)

-- the number from -low to high that a state stands for: its lower 31 bits as a part of 2 ^ 31 - 1, of low + high + 1 numbers
unfoldable pub drawn : ℕ → ℕ → ℕ → ℤ
drawn state low high = pos (state % 2 ^ 31 * (low + high + 1) / 2147483647) -ℤ pos low
