-- The motion vectors of a segment's macroblocks, in raster order. Assumes nothing.
use Rattle.std.specs.Prelude.{ℕ, ◌+◌, ◌-◌, ◌%◌, cond, List, [], ◌∷◌, ◌++◌, length, pos, ◌==◌, nat_lt, slice_index_or}
use Rattle.records.specs.declared.types.Macroblock.{Macroblock}
use Rattle.records.specs.declared.types.Macroblock.TheVariants.{Skipped, Inter, Intra}
use Rattle.records.specs.declared.types.Difference.{Difference}
use Rattle.samples.specs.Vectors.{median_of, vector_of}
use Rattle.motion.specs.declared.vectors.Vector.{Vector}

abbrev pub zero_vector : Vector
zero_vector = record { horizontal = pos 0; vertical = pos 0 }

-- the vector at a place, and zero where there is none
abbrev pub vectors_at : List Vector → ℕ → Vector
vectors_at vectors i = slice_index_or vectors i zero_vector

-- The candidates of the macroblock that stands i-th in a segment of so many columns, among the vectors of those before it. One that would lie
-- left or right of the segment is zero; else one that would lie above the segment equals the left one.
abbrev pub left_of : ℕ → List Vector → ℕ → Vector
left_of columns vectors i = cond (i % columns == 0) zero_vector (vectors_at vectors (i - 1))

abbrev pub above_of : ℕ → List Vector → ℕ → Vector
above_of columns vectors i = cond (nat_lt i columns) (left_of columns vectors i) (vectors_at vectors (i - columns))

abbrev pub above_right_of : ℕ → List Vector → ℕ → Vector
above_right_of columns vectors i =
    cond ((i + 1) % columns == 0) zero_vector
    (cond (nat_lt i columns) (left_of columns vectors i) (vectors_at vectors (i + 1 - columns)))

-- the median of three, a component at a time
abbrev pub middle_of : Vector → Vector → Vector → Vector
middle_of a b c =
    record { horizontal = median_of a.horizontal b.horizontal c.horizontal; vertical = median_of a.vertical b.vertical c.vertical }

-- the predictor: the median of the three candidates
abbrev pub predictor_of : ℕ → List Vector → ℕ → Vector
predictor_of columns vectors i = middle_of (left_of columns vectors i) (above_of columns vectors i) (above_right_of columns vectors i)

-- a predictor and a difference make a vector
abbrev pub corrected : Vector → Difference → Vector
corrected predictor d =
    record { horizontal = vector_of predictor.horizontal d.horizontal; vertical = vector_of predictor.vertical d.vertical }

-- the vector of a macroblock; INTRA and skipped macroblocks have the zero vector
abbrev pub vector_for : ℕ → List Vector → ℕ → Macroblock → Vector
vector_for columns vectors i Skipped = zero_vector
vector_for columns vectors i (Inter quantizer pattern d blocks) = corrected (predictor_of columns vectors i) d
vector_for columns vectors i (Intra quantizer pattern blocks) = zero_vector

-- the vectors of the macroblocks to come, after those of the macroblocks before
unfoldable pub vectors_after : ℕ → List Vector → List Macroblock → List Vector
vectors_after columns vectors [] = vectors
vectors_after columns vectors (m ∷ ms) = vectors_after columns (vectors ++ (vector_for columns vectors (length vectors) m ∷ [])) ms

-- the vectors of a segment
unfoldable pub vectors_of : ℕ → List Macroblock → List Vector
vectors_of columns records = vectors_after columns [] records
