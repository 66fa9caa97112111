-- How old a macroblock is: the pictures since it was coded INTRA. Assumes nothing.
use Rattle.std.specs.Prelude.{ℕ, ◌+◌, min, Bool, cond, ◌==◌}

-- one picture older: at most 250, and 255, which stands for never, remains
abbrev pub older : ℕ → ℕ
older age = cond (age == 255) 255 (min (age + 1) 250)

-- the age in the next picture
abbrev pub next_age : Bool → ℕ → ℕ
next_age intra age = cond intra 0 (older age)
