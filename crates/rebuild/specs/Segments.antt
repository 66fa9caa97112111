-- The samples of a segment before the deblocking filter: each place has those of its macroblock. Assumes nothing.
use Rattle.std.specs.Prelude.{ℕ, ◌+◌, ◌-◌, ◌*◌, ◌/◌, List, ℤ, slice_index_or}
use Rattle.records.specs.declared.types.Macroblock.{Macroblock}
use Rattle.records.specs.declared.types.Macroblock.TheVariants.{Skipped}
use Rattle.motion.specs.declared.vectors.Vector.{Vector}
use Rattle.motion.specs.Vectors.{zero_vector}
use Rattle.pictures.specs.declared.layouts.Segment.{Segment}
use Rattle.pictures.specs.Pictures.{side}
use Rattle.rebuild.specs.Macroblocks.{macroblock_sample}

-- where the macroblock of a place stands among the segment's, in raster order
unfoldable pub cell_at : Segment → ℕ → ℕ → ℕ → ℕ
cell_at s q u v = (v / side q - s.top) * (s.right - s.left) + (u / side q - s.left)

-- the samples that records and vectors give, by the cell of each place
unfoldable pub samples_by : (List ℤ → ℕ → ℕ → ℤ) → Segment → ℕ → (ℕ → ℕ → ℕ → ℕ) → List Macroblock → List Vector → (ℕ → ℕ → ℕ → ℕ) → ℕ → ℕ → ℕ → ℕ
samples_by meaning s rounding picture records vectors cell q u v =
    macroblock_sample meaning s rounding picture (slice_index_or records (cell q u v) Skipped) (slice_index_or vectors (cell q u v) zero_vector) q u v

-- and where it stands in its row
abbrev pub column_at : Segment → ℕ → ℕ → ℕ → ℕ
column_at s q u v = u / side q - s.left
