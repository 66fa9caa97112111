-- Half-sample prediction of one sample. Assumes nothing.
use Rattle.std.specs.Prelude.{ℕ, ◌+◌, ◌-◌, ◌/◌, Bool, true, false, cond, ◌==◌, Result, Ok, Err}
use Rattle.samples.specs.declared.prediction.Rounding.{Rounding}
use Rattle.samples.specs.declared.prediction.Rounding.TheVariants.{Up, Down}
use Rattle.samples.specs.declared.prediction.UnknownRounding.{UnknownRounding}

-- the picture's rounding as a number: 0 rounds halves up, 1 down
abbrev pub rounding_of : Rounding → ℕ
rounding_of Up = 0
rounding_of Down = 1

-- the rounding that a number stands for: the others stand for none
abbrev pub rounding_named : ℕ → Result Rounding UnknownRounding
rounding_named number = cond (number == 0) (Ok Up) (cond (number == 1) (Ok Down) (Err (record { number = number })))

-- midway between two samples, and between four
abbrev pub between_two : ℕ → ℕ → ℕ → ℕ
between_two rounding a b = (a + b + 1 - rounding) / 2

abbrev pub between_four : ℕ → ℕ → ℕ → ℕ → ℕ → ℕ
between_four rounding a b c d = (a + b + c + d + 2 - rounding) / 4

-- the prediction where half steps lead across and down: a lies at the place itself, b right of it, c below it, d below b
abbrev pub predicted : ℕ → Bool → Bool → ℕ → ℕ → ℕ → ℕ → ℕ
predicted rounding false false a b c d = a
predicted rounding true false a b c d = between_two rounding a b
predicted rounding false true a b c d = between_two rounding a c
predicted rounding true true a b c d = between_four rounding a b c d
