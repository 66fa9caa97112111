-- Counting calls.
use Rattle.std.specs.Prelude.{ℕ, ◌+◌, ◌-◌, ◌^◌, min, Bool, true, false, cond}
use Rattle.calls.specs.declared.answers.Answer.{Answer}
use Rattle.calls.specs.declared.answers.Answer.TheVariants.{Opened, Delivered, Closed, Sample, Age, Refused, OutOfTurn}

-- one more, up to the greatest number of 64 bits
abbrev pub one_more : ℕ → ℕ
one_more n = min (n + 1) (2 ^ 64 - 1)

abbrev pub one_more_if : Bool → ℕ → ℕ
one_more_if test n = cond test (one_more n) n

-- a call out of turn is answered, and not refused
abbrev pub is_refused : Answer → Bool
is_refused (Opened n) = false
is_refused (Delivered d) = false
is_refused (Closed n) = false
is_refused (Sample n) = false
is_refused (Age n) = false
is_refused (Refused f) = true
is_refused OutOfTurn = false
