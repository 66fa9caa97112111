-- The table cells of a segment's macroblocks, in raster order: ages and marks beside the vectors. Assumes nothing.
use Rattle.std.specs.Prelude.{ℕ, ◌≤◌, length, List, [], ◌∷◌, Some, None, Option}
use Rattle.records.specs.declared.types.Macroblock.{Macroblock}
use Rattle.records.specs.declared.types.Macroblock.TheVariants.{Skipped, Inter, Intra}
use Rattle.records.specs.Deliveries.{is_intra}
use Rattle.motion.specs.declared.vectors.Vector.{Vector}
use Rattle.samples.specs.Ages.{next_age}

-- the mark for the deblocking filter: a coded macroblock's quantizer, and none for a skipped one
abbrev pub mark_of : Macroblock → Option ℕ
mark_of Skipped = None
mark_of (Inter quantizer pattern d blocks) = Some quantizer
mark_of (Intra quantizer pattern blocks) = Some quantizer

unfoldable pub marks_of : List Macroblock → List (Option ℕ)
marks_of [] = []
marks_of (m ∷ ms) = mark_of m ∷ marks_of ms

-- the ages, from the finished ones
unfoldable pub ages_of : List Macroblock → List ℕ → List ℕ
ages_of [] finished = []
ages_of (m ∷ ms) [] = next_age (is_intra m) 0 ∷ ages_of ms []
ages_of (m ∷ ms) (a ∷ finished) = next_age (is_intra m) a ∷ ages_of ms finished

-- the tables of finished ages, ages, vectors and marks have so many cells at least
pub record Room (n : ℕ) (finished : List ℕ) (ages : List ℕ) (vectors : List Vector) (marks : List (Option ℕ)) : Type 0 where
  pub of_finished : n ≤ length finished
  pub of_ages : n ≤ length ages
  pub of_vectors : n ≤ length vectors
  pub of_marks : n ≤ length marks
