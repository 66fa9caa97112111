-- The samples of a block, which is a square of a plane, by rows.
use Rattle.std.proofs.Common.{◌≡◌, ℕ, ◌+◌, ◌-◌, ◌*◌, ◌/◌, ◌%◌, ◌<◌, true, List, None, Option, get_or, replicate, ℤ, pos, ◌+ℤ◌, arith}
use Rattle.std.proofs.lemmas.List.{get_or-replicate}
use Rattle.motion.specs.declared.vectors.Vector.{Vector}
use Rattle.pictures.specs.declared.layouts.Segment.{Segment}
use Rattle.pictures.specs.Pictures.{square_at}
use Rattle.samples.specs.Clipping.{clipped}
use Rattle.deblocking.proofs.Squared.{of_square, square_value}
use Rattle.rebuild.specs.Blocks.{predicted_from, summed}

-- where nothing is predicted
pub nothing : (s : Segment) (rounding : ℕ) (picture : ℕ → ℕ → ℕ → ℕ) (source : Option Vector) (p x y k : ℕ) → k < 64 → source ≡ None
    → get_or (replicate 64 0) k 0 ≡ predicted_from s rounding picture source p x y
nothing s rounding picture source p x y k h e = rw e (get_or-replicate 64 k 0 0 h)

-- the sums of predictions and residuals are the samples of a block
pub block_summed : (s : Segment) (rounding : ℕ) (of : ℕ → ℕ → ℕ → ℕ) (source : Option Vector) (residual : List ℤ) (predictions sums : List ℕ) (p left top q u v : ℕ)
    → square_at p left top q u v ≡ true → left % 8 ≡ 0 → top % 8 ≡ 0
    → ((k : ℕ) → k < 64 → get_or predictions k 0 ≡ predicted_from s rounding of source p (left + k % 8) (top + k / 8))
    → ((k : ℕ) → k < 64 → get_or sums k 0 ≡ clipped (pos (get_or predictions k 0) +ℤ get_or residual k (pos 0)))
    → get_or sums (8 * (v - top) + (u - left)) 0 ≡ summed s rounding of source residual q u v
unfolding summed
block_summed s rounding of source residual predictions sums p left top q u v e b c each sum =
    let w = of_square p left top q u v e in
    let there : 8 * (v % 8) + u % 8 ≡ 8 * (v - top) + (u - left) = omega (arith, w.1, w.2, w.3, w.4) in
    rw (there, ← square_value (predicted_from s rounding of source) p left top predictions q u v e each) (sum _ (omega (arith, w.1, w.2, w.3, w.4)))
