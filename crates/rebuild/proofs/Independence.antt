-- A segment is rebuilt from its own places of the finished picture, and from none where all its macroblocks are INTRA.
use Rattle.std.proofs.Common.{◌≡◌, ℕ, ◌*◌, ◌<◌, ◌≤◌, true, List, ℤ, pos, negsuc, Some, None, Option, refl, ap, arith}
use Rattle.std.proofs.lemmas.Bool.{le-leb, lt-ltb}
use Rattle.records.specs.declared.types.Macroblock.{Macroblock}
use Rattle.records.specs.declared.types.Macroblock.TheVariants.{Skipped, Inter, Intra}
use Rattle.records.specs.Deliveries.{intra_at, is_intra}
use Rattle.motion.specs.declared.vectors.Vector.{Vector}
use Rattle.motion.specs.Vectors.{vectors_of}
use Rattle.pictures.specs.declared.layouts.Segment.{Segment}
use Rattle.pictures.specs.Pictures.{Picture, covers, side}
use Rattle.prediction.specs.Window.{brought_inside, prediction_at, window}
use Rattle.deblocking.specs.Edges.{filtered}
use Rattle.pictures.proofs.Addresses.{by_side}
use Rattle.rebuild.specs.Blocks.{predicted_from}
use Rattle.rebuild.specs.Laws.{Independent}
use Rattle.rebuild.specs.Macroblocks.{coded_sample, macroblock_sample, source_for}
use Rattle.rebuild.specs.Rebuilt.{count_of, rebuilt, width_of}
use Rattle.rebuild.specs.Segments.{cell_at, samples_by}
use Rattle.rebuild.proofs.Cells.{cell_below}
use Rattle.rebuild.proofs.Sixths.{agreeing}

-- a coordinate that was brought inside is inside
brought_is_inside : (low high : ℕ) (z : ℤ) → low < high → (low ≤ brought_inside low high z) × (brought_inside low high z < high)
unfolding brought_inside
brought_is_inside low high (pos n) h = (grind arith, grind arith)
brought_is_inside low high (negsuc n) h = (omega arith, omega arith)

times_side : (a b q : ℕ) → a < b → a * side q < b * side q
times_side a b q = by_side (λ s. a < b → a * s < b * s) q (λ h. omega arith) (λ h. omega arith)

module _ (s : Segment) (wide : s.left < s.right) (high : s.top < s.bottom) where
  -- so a window shows the segment's places only
  seen_inside : (q : ℕ) (x y : ℤ) → covers s q (brought_inside (s.left * side q) (s.right * side q) x) (brought_inside (s.top * side q) (s.bottom * side q) y) ≡ true
  unfolding covers
  seen_inside q x y =
      let a = brought_is_inside (s.left * side q) (s.right * side q) x (times_side s.left s.right q wide) in
      let b = brought_is_inside (s.top * side q) (s.bottom * side q) y (times_side s.top s.bottom q high) in
      simp (le-leb _ _ a.0, lt-ltb _ _ a.1, le-leb _ _ b.0, lt-ltb _ _ b.1)

  -- in each plane by itself
  module _ (f g : ℕ → ℕ → ℕ → ℕ) (q : ℕ) (same : (u v : ℕ) → covers s q u v ≡ true → f q u v ≡ g q u v) where
    window_same : (x y : ℤ) → window s f q x y ≡ window s g q x y
    unfolding window
    window_same x y = same _ _ (seen_inside q x y)

    prediction_same : (rounding u v : ℕ) (across down : ℤ) → prediction_at s rounding f q u v across down ≡ prediction_at s rounding g q u v across down
    unfolding prediction_at
    prediction_same rounding u v across down = simp window_same

    source_same : (rounding : ℕ) (source : Option Vector) (u v : ℕ) → predicted_from s rounding f source q u v ≡ predicted_from s rounding g source q u v
    source_same rounding None u v = refl
    source_same rounding (Some vector) u v = prediction_same rounding u v vector.horizontal vector.vertical

    coded_same : (meaning : List ℤ → ℕ → ℕ → ℤ) (rounding : ℕ) (m : Macroblock) (vector : Vector) (u v : ℕ)
        → coded_sample meaning s rounding f m vector q u v ≡ coded_sample meaning s rounding g m vector q u v
    unfolding coded_sample
    coded_same meaning rounding m vector u v = rw (source_same rounding (source_for m vector q) u v) refl

    sample_same : (meaning : List ℤ → ℕ → ℕ → ℤ) (rounding : ℕ) (m : Macroblock) (vector : Vector) (u v : ℕ) → covers s q u v ≡ true
        → macroblock_sample meaning s rounding f m vector q u v ≡ macroblock_sample meaning s rounding g m vector q u v
    unfolding macroblock_sample
    sample_same meaning rounding Skipped vector u v e = same u v e
    sample_same meaning rounding (Inter quantizer pattern d blocks) vector u v e = coded_same meaning rounding (Inter quantizer pattern d blocks) vector u v
    sample_same meaning rounding (Intra quantizer pattern blocks) vector u v e = coded_same meaning rounding (Intra quantizer pattern blocks) vector u v

    pub own_samples : (meaning : List ℤ → ℕ → ℕ → ℤ) (rounding : ℕ) (records : List Macroblock) (vectors : List Vector) (u v : ℕ) → covers s q u v ≡ true
        → samples_by meaning s rounding f records vectors (cell_at s) q u v ≡ samples_by meaning s rounding g records vectors (cell_at s) q u v
    unfolding samples_by
    own_samples meaning rounding records vectors u v e = sample_same meaning rounding _ _ u v e

-- an INTRA macroblock is predicted from nothing
intra_same : (meaning : List ℤ → ℕ → ℕ → ℤ) (s : Segment) (rounding : ℕ) (f g : ℕ → ℕ → ℕ → ℕ) (m : Macroblock) (vector : Vector) (q u v : ℕ) → is_intra m ≡ true
    → macroblock_sample meaning s rounding f m vector q u v ≡ macroblock_sample meaning s rounding g m vector q u v
unfolding macroblock_sample coded_sample
intra_same meaning s rounding f g Skipped vector q u v e = let z : ◌≡◌ {A = ℕ} 0 1 = cc in absurd (omega arith)
intra_same meaning s rounding f g (Inter quantizer pattern d blocks) vector q u v e = let z : ◌≡◌ {A = ℕ} 0 1 = cc in absurd (omega arith)
intra_same meaning s rounding f g (Intra quantizer pattern blocks) vector q u v e = refl

pub intra_samples : (meaning : List ℤ → ℕ → ℕ → ℤ) (s : Segment) (rounding : ℕ) (f g : ℕ → ℕ → ℕ → ℕ) (records : List Macroblock) (vectors : List Vector)
    → ((i : ℕ) → i < count_of s → intra_at records i ≡ true) → (q u v : ℕ) → covers s q u v ≡ true
    → samples_by meaning s rounding f records vectors (cell_at s) q u v ≡ samples_by meaning s rounding g records vectors (cell_at s) q u v
unfolding samples_by
intra_samples meaning s rounding f g records vectors all q u v e = intra_same meaning s rounding f g _ _ q u v (all (cell_at s q u v) (cell_below s q u v e))

-- equal samples at the segment's places are one rebuilt picture
rebuilt_same : (meaning : List ℤ → ℕ → ℕ → ℤ) (s : Segment) (rounding : ℕ) (records : List Macroblock) (marks : List (Option ℕ)) (working : Picture) (f g : ℕ → ℕ → ℕ → ℕ)
    → ((q u v : ℕ) → covers s q u v ≡ true → samples_by meaning s rounding f records (vectors_of (width_of s) records) (cell_at s) q u v ≡ samples_by meaning s rounding g records (vectors_of (width_of s) records) (cell_at s) q u v)
    → rebuilt meaning s rounding f records marks working ≡ rebuilt meaning s rounding g records marks working
rebuilt_same meaning s rounding records marks working f g same = ap (filtered marks s) (agreeing (covers s) _ _ working same)

pub independent : (s : Segment) → s.left < s.right → s.top < s.bottom → Independent s
independent s wide high =
    record {
      own_places = λ meaning rounding records marks working f g same.
          rebuilt_same meaning s rounding records marks working f g (λ q u v e. own_samples s wide high f g q (same q) meaning rounding records _ u v e);
      from_none = λ meaning rounding records marks working f g all.
          rebuilt_same meaning s rounding records marks working f g (λ q u v e. intra_samples meaning s rounding f g records _ all q u v e);
    }
