-- The zigzag order of a block's 64 places. Assumes nothing.
use Rattle.std.specs.Prelude.{ℕ, zero, suc, ◌+◌, ◌-◌, ◌*◌, ◌%◌, min, cond, List, [], ◌∷◌, ◌++◌, map, reverse, ◌==◌}
use Rattle.std.specs.List.{range_with_len}

-- the places, u across and v down, of the diagonal u + v = s, with u rising: from s - 7, or 0, to s, or 7
unfoldable pub rising : ℕ → List (ℕ × ℕ)
rising s = map (λ u. (u, s - u)) (range_with_len (s - 7) (min s 7 + 1 - (s - 7)))

-- u rises where the sum is even, and falls where it is odd
unfoldable pub diagonal : ℕ → List (ℕ × ℕ)
diagonal s = cond (s % 2 == 0) (rising s) (reverse (rising s))

-- the diagonals with sums below n, one after the other
unfoldable pub diagonals : ℕ → List (ℕ × ℕ)
diagonals zero = []
diagonals (suc n) = diagonals n ++ diagonal n

-- the places by position: sums from 0 to 14
unfoldable pub zigzag : List (ℕ × ℕ)
zigzag = diagonals 15

-- the position, in a list of places, of the one that is kept at p
unfoldable pub found : ℕ → List (ℕ × ℕ) → ℕ
found p [] = 0
found p (place ∷ places) = cond (8 * place.1 + place.0 == p) 0 (suc (found p places))

-- the zigzag position of the place that is kept at p
unfoldable pub position_of : ℕ → ℕ
position_of p = found p zigzag
