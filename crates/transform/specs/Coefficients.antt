-- The coefficients of a block, from its levels by zigzag position. Assumes nothing.
use Rattle.std.specs.Prelude.{◌≡◌, ℕ, zero, suc, ◌<◌, ◌≤◌, List, map, ℤ, pos, Some, None, Option, slice_index_or}
use Rattle.std.specs.List.{range_with_len}
use Rattle.transform.specs.Levels.{dequantized, first_coefficient}
use Rattle.transform.specs.Zigzag.{position_of}

-- the coefficient of the level at the position of the place p
unfoldable pub from_level : ℕ → List ℤ → ℕ → ℤ
from_level quantizer levels p = dequantized quantizer (slice_index_or levels (position_of p) (pos 0))

-- the coefficient at the place p: an INTRA block has a code for its first one, an INTER block has none
unfoldable pub coefficient_at : ℕ → Option ℕ → List ℤ → ℕ → ℤ
coefficient_at quantizer (Some code) levels zero = first_coefficient code
coefficient_at quantizer (Some code) levels (suc p) = from_level quantizer levels (suc p)
coefficient_at quantizer None levels p = from_level quantizer levels p

-- the 64 coefficients by place, the one u across and v down at 8 * v + u
unfoldable pub block_coefficients : ℕ → Option ℕ → List ℤ → List ℤ
block_coefficients quantizer dc levels = map (coefficient_at quantizer dc levels) (range_with_len 0 64)

-- the levels at the positions from a on and before b are 0
abbrev pub AllZero : List ℤ → ℕ → ℕ → Type 0
AllZero levels a b = (i : ℕ) → a ≤ i → i < b → slice_index_or levels i (pos 0) ≡ pos 0

-- the coefficients for the levels before position n are set, and the others are 0
abbrev pub SetBefore : ℕ → List ℤ → ℕ → List ℤ → Type 0
SetBefore quantizer levels n xs =
    (p : ℕ) → p < 64 → (position_of p < n → slice_index_or xs p (pos 0) ≡ from_level quantizer levels p) × (n ≤ position_of p → slice_index_or xs p (pos 0) ≡ pos 0)
