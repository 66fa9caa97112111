use Rattle.std.proofs.Common.{get_or}
use Rattle.samples.specs.Prediction.{between_two, rounding_of}
use Rattle.samples.proofs.Fill.{Filled}
use Rattle.samples.proofs.prediction.squares_between_two.Given as goal

abbrev pub invariant-loop-i : goal.invariant-loop-i
invariant-loop-i l = Filled 64 (λ k. between_two (rounding_of l.rounding) (get_or l.a k 0) (get_or l.b k 0)) l.i l.sample-items
