-- The samples of a macroblock, in all planes. Assumes nothing.
use Rattle.std.specs.Prelude.{ℕ, ◌+◌, ◌-◌, ◌*◌, ◌/◌, ◌%◌, cond, List, [], ℤ, pos, ◌+ℤ◌, Some, None, Option, ◌==◌, nat_lt, slice_index_or}
use Rattle.records.specs.declared.types.Block.{Block}
use Rattle.records.specs.declared.types.Macroblock.{Macroblock}
use Rattle.records.specs.declared.types.Macroblock.TheVariants.{Skipped, Inter, Intra}
use Rattle.records.specs.Blocks.{coded_in}
use Rattle.motion.specs.declared.vectors.Vector.{Vector}
use Rattle.pictures.specs.declared.layouts.Segment.{Segment}
use Rattle.samples.specs.Clipping.{clipped}
use Rattle.samples.specs.Vectors.{chroma_of}
use Rattle.transform.specs.Coefficients.{block_coefficients}
use Rattle.rebuild.specs.Blocks.{predicted_from}

-- a macroblock as a segment of one
abbrev pub segment_of_one : ℕ → ℕ → Segment
segment_of_one column row = record { left = column; right = column + 1; top = row; bottom = row + 1 }

-- the block that a place belongs to: blocks 0 to 3 are luma in raster order, 4 is Cb and 5 is Cr
unfoldable pub block_of : ℕ → ℕ → ℕ → ℕ
block_of q u v = cond (q == 0) (2 * (v % 16 / 8) + u % 16 / 8) (q + 3)

-- the plane of a block, and where its samples begin
abbrev pub plane_of : ℕ → ℕ
plane_of b = cond (nat_lt b 4) 0 (b - 3)

abbrev pub left_in : ℕ → ℕ → ℕ
left_in column b = cond (nat_lt b 4) (16 * column + 8 * (b % 2)) (8 * column)

abbrev pub top_in : ℕ → ℕ → ℕ
top_in row b = cond (nat_lt b 4) (16 * row + 8 * (b / 2)) (8 * row)

-- the vector serves luma as it is, and chroma by its chroma components
abbrev pub component_for : ℕ → ℤ → ℤ
component_for q z = cond (q == 0) z (chroma_of z)

-- a vector serves a plane by its components for it
abbrev pub vector_in : ℕ → Vector → Vector
vector_in q vector = record { horizontal = component_for q vector.horizontal; vertical = component_for q vector.vertical }

-- what a macroblock is predicted from: the finished picture, moved by the vector, or nothing
abbrev pub source_for : Macroblock → Vector → ℕ → Option Vector
source_for Skipped vector q = Some (vector_in q vector)
source_for (Inter quantizer pattern d blocks) vector q = Some (vector_in q vector)
source_for (Intra quantizer pattern blocks) vector q = None

abbrev pub no_block : Block
no_block = record { dc = None; levels = [] }

-- the coefficients of a block
abbrev pub coefficients_of : ℕ → Block → List ℤ
coefficients_of quantizer block = block_coefficients quantizer block.dc block.levels

-- the residual of block b at n across and k down, by a transform's meaning; a block without coefficients adds zero
abbrev pub residual_of : (List ℤ → ℕ → ℕ → ℤ) → Macroblock → ℕ → ℕ → ℕ → ℤ
residual_of meaning Skipped b n k = pos 0
residual_of meaning (Inter quantizer pattern d blocks) b n k =
    cond (coded_in pattern b) (meaning (coefficients_of quantizer (slice_index_or blocks b no_block)) n k) (pos 0)
residual_of meaning (Intra quantizer pattern blocks) b n k = meaning (coefficients_of quantizer (slice_index_or blocks b no_block)) n k

-- the samples of a coded macroblock with its vector
unfoldable pub coded_sample : (List ℤ → ℕ → ℕ → ℤ) → Segment → ℕ → (ℕ → ℕ → ℕ → ℕ) → Macroblock → Vector → ℕ → ℕ → ℕ → ℕ
coded_sample meaning s rounding picture m vector q u v =
    clipped (pos (predicted_from s rounding picture (source_for m vector q) q u v) +ℤ residual_of meaning m (block_of q u v) (u % 8) (v % 8))

-- the samples of a macroblock: a skipped one keeps those of the finished picture
unfoldable pub macroblock_sample : (List ℤ → ℕ → ℕ → ℤ) → Segment → ℕ → (ℕ → ℕ → ℕ → ℕ) → Macroblock → Vector → ℕ → ℕ → ℕ → ℕ
macroblock_sample meaning s rounding picture Skipped vector q u v = picture q u v
macroblock_sample meaning s rounding picture (Inter quantizer pattern d blocks) vector q u v =
    coded_sample meaning s rounding picture (Inter quantizer pattern d blocks) vector q u v
macroblock_sample meaning s rounding picture (Intra quantizer pattern blocks) vector q u v =
    coded_sample meaning s rounding picture (Intra quantizer pattern blocks) vector q u v
