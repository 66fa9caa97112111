use Rattle.std.proofs.Common.{get_or, pos, ◌+ℤ◌}
use Rattle.samples.specs.Clipping.{clipped}
use Rattle.samples.proofs.Fill.{Filled}
use Rattle.samples.proofs.prediction.add_residuals.Given as goal

abbrev pub invariant-loop-i : goal.invariant-loop-i
invariant-loop-i l = Filled 64 (λ k. clipped (pos (get_or l.predictions k 0) +ℤ get_or l.residuals k (pos 0))) l.i l.sum-items
