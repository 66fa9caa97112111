-- Facts about all 64 places of a block. Assumes nothing.
use Rattle.std.specs.Prelude.{◌≡◌, ℕ, ◌+◌, ◌*◌, ◌<◌, List, ℤ, pos, slice_index_or}

-- P n k holds at each place, n across and k down
abbrev pub Everywhere : (ℕ → ℕ → Type 0) → Type 0
Everywhere P = (n k : ℕ) → n < 8 → k < 8 → P n k

-- the number n across and k down is f n k
abbrev pub Shows : List ℤ → (ℕ → ℕ → ℤ) → Type 0
Shows xs f = Everywhere (λ n k. slice_index_or xs (8 * k + n) (pos 0) ≡ f n k)

-- the number at the place p is f p
abbrev pub Gives : List ℤ → (ℕ → ℤ) → Type 0
Gives xs f = (p : ℕ) → p < 64 → slice_index_or xs p (pos 0) ≡ f p
