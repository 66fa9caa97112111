-- Squares of 8 by 8 samples, by rows, that have an edge in their middle. Assumes nothing.
use Rattle.std.specs.Prelude.{◌≡◌, ℕ, ◌+◌, ◌-◌, ◌*◌, ◌<◌, Bool, cond, ◌&&◌, List, nat_le, nat_lt, slice_index}
use Rattle.samples.specs.Deblocking.{four_at}
use Rattle.samples.specs.declared.deblocking.Four.{Four}
use Rattle.samples.specs.declared.deblocking.FourRows.{FourRows}
use Rattle.deblocking.specs.Edges.{of_role}

-- where the sample stands that lies i along the edge and j over it from the square's corner
abbrev pub kept_at : Bool → ℕ → ℕ → ℕ
kept_at turned i j = cond turned (8 * i + j) (8 * j + i)

-- the four samples next to the edge at place i along it
abbrev pub four_across : Bool → List ℕ → ℕ → Four
four_across turned square i =
    record { a = slice_index square (kept_at turned i 2); b = slice_index square (kept_at turned i 3); c = slice_index square (kept_at turned i 4); d = slice_index square (kept_at turned i 5) }

-- which places over the edge, counted from the square's side, are next to it
abbrev pub next_to : ℕ → Bool
next_to j = nat_le 2 j && nat_lt j 6

-- the square after has these rows next to the edge, four samples at each place along it, and else what the one before had
abbrev pub MiddleSet : Bool → FourRows → List ℕ → List ℕ → Type 0
MiddleSet turned rows before after =
    (i j : ℕ) → i < 8 → j < 8
    → slice_index after (kept_at turned i j) ≡ cond (next_to j) (of_role (j - 2) (four_at rows i)) (slice_index before (kept_at turned i j))
