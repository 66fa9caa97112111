-- From a level to a coefficient, by the macroblock's quantizer. Assumes nothing.
use Rattle.std.specs.Prelude.{ℕ, zero, suc, ◌+◌, ◌-◌, ◌*◌, ◌%◌, cond, ℤ, pos, ◌==◌, unsigned_abs}
use Rattle.transform.specs.Inverse.{limited}
use Rattle.transform.specs.Signs.{with_sign}

-- the size of the coefficient for a level of a size: 0 for 0, else the quantizer times one more than twice it, less 1 if the quantizer
-- is even (`-` stops at 0, which only the quantizer 0 comes to, and no macroblock has that)
unfoldable pub rebuilt_size : ℕ → ℕ → ℕ
rebuilt_size quantizer zero = 0
rebuilt_size quantizer (suc level) = quantizer * (2 * suc level + 1) - cond (quantizer % 2 == 0) 1 0

-- that size with the level's sign, brought into -2048 to 2047
abbrev pub dequantized : ℕ → ℤ → ℤ
dequantized quantizer level = limited (with_sign level (rebuilt_size quantizer (unsigned_abs level)))

-- the first coefficient of an INTRA block has a code of its own, in steps of 8; 255 stands for 1024, since 128 is not used as a code
abbrev pub first_coefficient : ℕ → ℤ
first_coefficient code = cond (code == 255) (pos 1024) (pos (8 * code))
