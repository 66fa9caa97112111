-- What accepted calls make of the memory.
use Rattle.std.specs.Prelude.{ℕ, ◌+◌, ◌*◌, ◌/◌, Bool, cond, not, List, [], ◌∷◌, drop, ℤ, slice_index}
use Rattle.records.specs.declared.types.Macroblock.{Macroblock}
use Rattle.records.specs.declared.types.PictureKind.{PictureKind}
use Rattle.records.specs.declared.types.PictureKind.TheVariants as picture
use Rattle.samples.specs.declared.prediction.Rounding.{Rounding}
use Rattle.samples.specs.Ages.{older}
use Rattle.samples.specs.Prediction.{rounding_of}
use Rattle.motion.specs.Cells.{ages_of, marks_of}
use Rattle.motion.specs.Vectors.{vectors_of}
use Rattle.pictures.specs.declared.formats.Format.{Format}
use Rattle.pictures.specs.declared.layouts.Segment.{Segment}
use Rattle.pictures.specs.Formats.{columns_of}
use Rattle.pictures.specs.Pictures.{Picture, painted, side}
use Rattle.pictures.specs.Segments.{has_bit, segment_of_row}
use Rattle.rebuild.specs.Rebuilt.{first_cell, rebuilt, set_from, width_of}
use Rattle.calls.specs.Held.{Held}

-- An accepted delivery sets the samples of its segment in the working picture, and its cells in the working ages, the vectors and the marks.
unfoldable pub segment_rebuilt : (List ℤ → ℕ → ℕ → ℤ) → Segment → Rounding → List Macroblock → Held → Held
segment_rebuilt meaning s rounding records h =
    record {
      finished = h.finished;
      working = rebuilt meaning s (rounding_of rounding) h.finished.sample records (set_from (first_cell s) (marks_of records) h.marks) h.working;
      finished_ages = h.finished_ages;
      working_ages = set_from (first_cell s) (ages_of records (drop (first_cell s) h.finished_ages)) h.working_ages;
      vectors = set_from (first_cell s) (vectors_of (width_of s) records) h.vectors;
      marks = set_from (first_cell s) (marks_of records) h.marks;
    }

-- a macroblock row lies in a segment that was not accepted
unfoldable pub missing : ℕ → ℕ → ℕ → Bool
missing layout accepted row = not (has_bit accepted (segment_of_row layout row))

-- what stands in for samples and ages that were not delivered: an INTRA picture has grey of no age, an INTER picture is as if skipped
abbrev pub fill_sample : PictureKind → Picture → ℕ → ℕ → ℕ → ℕ
fill_sample picture.Intra finished q u v = 128
fill_sample picture.Inter finished q u v = finished.sample q u v

abbrev pub fill_age : PictureKind → ℕ → ℕ
fill_age picture.Intra age = 255
fill_age picture.Inter age = older age

unfoldable pub filled_picture : PictureKind → ℕ → ℕ → Picture → Picture → Picture
filled_picture kind layout accepted finished working =
    painted (λ q u v. missing layout accepted (v / side q)) (fill_sample kind finished) working

-- the ages from cell i on, where a test tells the missing cells
unfoldable pub ages_filled : (ℕ → Bool) → PictureKind → ℕ → List ℕ → List ℕ → List ℕ
ages_filled gone kind i [] working = working
ages_filled gone kind i (f ∷ finished) [] = []
ages_filled gone kind i (f ∷ finished) (w ∷ working) = cond (gone i) (fill_age kind f) w ∷ ages_filled gone kind (i + 1) finished working

abbrev pub filled_ages : Format → PictureKind → ℕ → ℕ → List ℕ → List ℕ → List ℕ
filled_ages format kind layout accepted finished working = ages_filled (λ i. missing layout accepted (i / columns_of format)) kind 0 finished working

-- Closing fills the segments that were not accepted, and what the working picture and the working ages then hold becomes the finished ones.
unfoldable pub picture_closed : Format → PictureKind → ℕ → ℕ → Held → Held
picture_closed format kind layout accepted h =
    record {
      finished = filled_picture kind layout accepted h.finished h.working;
      working = filled_picture kind layout accepted h.finished h.working;
      finished_ages = filled_ages format kind layout accepted h.finished_ages h.working_ages;
      working_ages = filled_ages format kind layout accepted h.finished_ages h.working_ages;
      vectors = h.vectors;
      marks = h.marks;
    }

-- the age of the macroblock in a column and a row
unfoldable pub age_at : Format → List ℕ → ℕ → ℕ → ℕ
age_at format ages column row = slice_index ages (row * columns_of format + column)
