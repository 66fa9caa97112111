-- A plane of a picture as one list, row by row from the top, and what a buffer holds once a list is laid over it.
use Rattle.std.specs.Prelude.{ℕ, zero, suc, ◌*◌, cond, List, [], ◌++◌, length, drop, map, nat_le, nat_lt}
use Rattle.std.specs.List.{range_with_len}
use Rattle.pictures.specs.Pictures.{Picture, side}

-- the first so many samples of a row of a plane, from left to right
abbrev pub row_samples : Picture → ℕ → ℕ → ℕ → List ℕ
row_samples f p width down = map (λ across. f.sample p across down) (range_with_len 0 width)

-- the first so many rows of that width, one after the other
unfoldable pub rows_samples : Picture → ℕ → ℕ → ℕ → List ℕ
rows_samples f p width zero = []
rows_samples f p width (suc down) = rows_samples f p width down ++ row_samples f p width down

-- how many samples a plane has; there are three planes
abbrev pub plane_size : Picture → ℕ → ℕ
plane_size f p = cond (nat_lt p 3) (f.wide * side p * (f.high * side p)) 0

abbrev pub plane_samples : Picture → ℕ → List ℕ
plane_samples f p = cond (nat_lt p 3) (rows_samples f p (f.wide * side p) (f.high * side p)) []

-- a list of so many cells over the front of a buffer that has room for it; one that has not stays as it is
abbrev pub laid_over : ℕ → List ℕ → List ℕ → List ℕ
laid_over n cells buffer = cond (nat_le n (length buffer)) (cells ++ drop n buffer) buffer
