-- Samples are from 0 to 255. Assumes nothing.
use Rattle.std.specs.Prelude.{ℕ, min, ℤ, pos, negsuc}

-- a number, brought into 0 to 255
abbrev pub clipped : ℤ → ℕ
clipped (pos n) = min n 255
clipped (negsuc n) = 0
