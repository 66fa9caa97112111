-- Prediction inside a segment. Every coordinate is first brought inside the segment, so that nothing outside it is seen. Assumes nothing.
use Rattle.std.specs.Prelude.{◌≡◌, ℕ, ◌+◌, ◌-◌, ◌*◌, ◌/◌, ◌%◌, ◌<◌, min, max, Bool, List, ℤ, pos, negsuc, ◌+ℤ◌, ◌-ℤ◌, ◌==◌, slice_index}
use Rattle.pictures.specs.declared.layouts.Segment.{Segment}
use Rattle.pictures.specs.Pictures.{side}
use Rattle.samples.specs.Prediction.{predicted}
use Rattle.transform.specs.Sums.{floor}

-- a coordinate, brought from low to before high
unfoldable pub brought_inside : ℕ → ℕ → ℤ → ℕ
brought_inside low high (pos n) = max low (min n (high - 1))
brought_inside low high (negsuc n) = low

-- the samples of plane p as a segment sees them
unfoldable pub window : Segment → (ℕ → ℕ → ℕ → ℕ) → ℕ → ℤ → ℤ → ℕ
window s picture p x y = picture p (brought_inside (s.left * side p) (s.right * side p) x) (brought_inside (s.top * side p) (s.bottom * side p) y)

-- a square of 8 by 8 samples, by rows, is what a segment sees from coordinates on that are 64 above their value
abbrev pub ShowsSquare : List ℕ → Segment → (ℕ → ℕ → ℕ → ℕ) → ℕ → ℕ → ℕ → Type 0
ShowsSquare square s picture p across down =
    (k : ℕ) → k < 64 → slice_index square k ≡ window s picture p (pos (across + k % 8) -ℤ pos 64) (pos (down + k / 8) -ℤ pos 64)

-- a component in half samples leads half a sample past the whole one below it
unfoldable pub is_half : ℤ → Bool
is_half (pos n) = n % 2 == 1
is_half (negsuc n) = n % 2 == 0

-- The prediction at a place of plane p, for a vector of so many half samples across and down: at the place moved by the whole samples, with
-- half steps to the neighbours right, below, and both.
unfoldable pub prediction_at : Segment → ℕ → (ℕ → ℕ → ℕ → ℕ) → ℕ → ℕ → ℕ → ℤ → ℤ → ℕ
prediction_at s rounding picture p x y across down =
    predicted rounding (is_half across) (is_half down)
    (window s picture p (pos x +ℤ floor across 2) (pos y +ℤ floor down 2))
    (window s picture p (pos x +ℤ floor across 2 +ℤ pos 1) (pos y +ℤ floor down 2))
    (window s picture p (pos x +ℤ floor across 2) (pos y +ℤ floor down 2 +ℤ pos 1))
    (window s picture p (pos x +ℤ floor across 2 +ℤ pos 1) (pos y +ℤ floor down 2 +ℤ pos 1))

-- a square of 8 by 8 samples, by rows, is the predictions at the places from x and y on
abbrev pub PredictsSquare : List ℕ → Segment → ℕ → (ℕ → ℕ → ℕ → ℕ) → ℕ → ℕ → ℕ → ℤ → ℤ → Type 0
PredictsSquare square s rounding picture p x y across down =
    (k : ℕ) → k < 64 → slice_index square k ≡ prediction_at s rounding picture p (x + k % 8) (y + k / 8) across down
