-- A block of 8 by 8 samples of a plane: each is the sum of a prediction and a residual, brought into 0 to 255. Assumes nothing.
use Rattle.std.specs.Prelude.{ℕ, ◌+◌, ◌*◌, ◌%◌, List, [], ℤ, Some, None, Option, pos, ◌+ℤ◌, slice_index_or}
use Rattle.motion.specs.declared.vectors.Vector.{Vector}
use Rattle.pictures.specs.declared.layouts.Segment.{Segment}
use Rattle.prediction.specs.Window.{prediction_at}
use Rattle.samples.specs.Clipping.{clipped}

-- the prediction at a place, by a vector; nothing predicts zero
abbrev pub predicted_from : Segment → ℕ → (ℕ → ℕ → ℕ → ℕ) → Option Vector → ℕ → ℕ → ℕ → ℕ
predicted_from s rounding picture None p x y = 0
predicted_from s rounding picture (Some vector) p x y = prediction_at s rounding picture p x y vector.horizontal vector.vertical

-- the residuals of a block by place; a block without coefficients has none, and each then counts as zero
abbrev pub values_of : Option (List ℤ) → List ℤ
values_of (Some residual) = residual
values_of None = []

-- the samples of a block: residuals stand at 8 * down + across
unfoldable pub summed : Segment → ℕ → (ℕ → ℕ → ℕ → ℕ) → Option Vector → List ℤ → ℕ → ℕ → ℕ → ℕ
summed s rounding picture source residual q u v =
    clipped (pos (predicted_from s rounding picture source q u v) +ℤ slice_index_or residual (8 * (v % 8) + u % 8) (pos 0))
