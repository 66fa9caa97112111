-- Cells of a table by their numbers.
use Rattle.std.specs.Prelude.{ℕ, ◌+◌, Bool, ◌&&◌, nat_le, nat_lt}

-- the cell k is one of so many from a place on, and the table, which has so many cells, has it
abbrev pub in_part : ℕ → ℕ → ℕ → ℕ → Bool
in_part first count size k = nat_le first k && (nat_lt k (first + count) && nat_lt k size)
