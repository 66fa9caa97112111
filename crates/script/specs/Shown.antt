-- What is counted of macroblock records for their text.
use Rattle.std.specs.Prelude.{ℕ, Bool, true, not, List, ℤ, pos, negsuc, ◌==◌, count_by, sum_by}
use Rattle.records.specs.declared.types.Block.{Block}

-- a level that is not 0
abbrev pub is_level : ℤ → Bool
is_level (pos n) = not (n == 0)
is_level (negsuc n) = true

-- the levels that are not 0
abbrev pub nonzero_levels : List ℤ → ℕ
nonzero_levels levels = count_by is_level levels

abbrev pub coefficients_in : List Block → ℕ
coefficients_in blocks = sum_by (λ (block : Block). nonzero_levels block.levels) blocks
