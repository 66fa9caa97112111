-- What a window predicts and what a rebuilder rebuilds, by the meaning of stores and of transforms: the finished picture is that of the window's store, and
-- segment and rounding are the window's. Assumes nothing.
use Rattle.std.specs.Prelude.{ℕ, List, ℤ, Option}
use Rattle.records.specs.declared.types.Macroblock.{Macroblock}
use Rattle.samples.specs.Prediction.{rounding_of}
use Rattle.motion.specs.declared.vectors.Vector.{Vector}
use Rattle.pictures.specs.Pictures.{Picture, covers, painted, row_in}
use Rattle.prediction.specs.declared.window.Window.{Window}
use Rattle.rebuild.specs.declared.rebuilder.Rebuilder.{Rebuilder}
use Rattle.rebuild.specs.Blocks.{predicted_from, summed}
use Rattle.rebuild.specs.Macroblocks.{coded_sample, macroblock_sample}
use Rattle.rebuild.specs.Segments.{cell_at, column_at, samples_by}
use Rattle.rebuild.specs.Rebuilt.{rebuilt}

-- the prediction at a place, by a vector
abbrev pub predicted_in : {S : Type 0} → (S → Picture) → Window S → Option Vector → ℕ → ℕ → ℕ → ℕ
predicted_in picture w source = predicted_from w.segment (rounding_of w.rounding) (picture w.finished.now).sample source

-- its sum with the residual there
abbrev pub summed_in : {S : Type 0} → (S → Picture) → Window S → Option Vector → List ℤ → ℕ → ℕ → ℕ → ℕ
summed_in picture w source residual = summed w.segment (rounding_of w.rounding) (picture w.finished.now).sample source residual

-- the samples of a coded macroblock, and of any
abbrev pub coded_sample_by : {S T : Type 0} → (S → Picture) → (T → List ℤ → ℕ → ℕ → ℤ) → Rebuilder S T → Macroblock → Vector → ℕ → ℕ → ℕ → ℕ
coded_sample_by picture meaning r m vector =
    coded_sample (meaning r.transform.now) r.window.segment (rounding_of r.window.rounding) (picture r.window.finished.now).sample m vector

abbrev pub macroblock_sample_by : {S T : Type 0} → (S → Picture) → (T → List ℤ → ℕ → ℕ → ℤ) → Rebuilder S T → Macroblock → Vector → ℕ → ℕ → ℕ → ℕ
macroblock_sample_by picture meaning r m vector =
    macroblock_sample (meaning r.transform.now) r.window.segment (rounding_of r.window.rounding) (picture r.window.finished.now).sample m vector

-- the samples that records and vectors give, by the cell of each place
abbrev pub segment_samples_by : {S T : Type 0} → (S → Picture) → (T → List ℤ → ℕ → ℕ → ℤ) → Rebuilder S T → List Macroblock → List Vector → (ℕ → ℕ → ℕ → ℕ) → ℕ → ℕ → ℕ → ℕ
segment_samples_by picture meaning r records vectors cell =
    samples_by (meaning r.transform.now) r.window.segment (rounding_of r.window.rounding) (picture r.window.finished.now).sample records vectors cell

-- a working picture with these samples in one row of the window's segment, and in all of it
abbrev pub unfiltered_row_by : {S T : Type 0} → (S → Picture) → (T → List ℤ → ℕ → ℕ → ℤ) → Rebuilder S T → ℕ → List Macroblock → List Vector → Picture → Picture
unfiltered_row_by picture meaning r row records vectors working =
    painted (covers (row_in r.window.segment row)) (segment_samples_by picture meaning r records vectors (column_at r.window.segment)) working

abbrev pub unfiltered_by : {S T : Type 0} → (S → Picture) → (T → List ℤ → ℕ → ℕ → ℤ) → Rebuilder S T → List Macroblock → List Vector → Picture → Picture
unfiltered_by picture meaning r records vectors working =
    painted (covers r.window.segment) (segment_samples_by picture meaning r records vectors (cell_at r.window.segment)) working

-- a working picture with the window's segment rebuilt
abbrev pub rebuilt_by : {S T : Type 0} → (S → Picture) → (T → List ℤ → ℕ → ℕ → ℤ) → Rebuilder S T → List Macroblock → List (Option ℕ) → Picture → Picture
rebuilt_by picture meaning r records marks working =
    rebuilt (meaning r.transform.now) r.window.segment (rounding_of r.window.rounding) (picture r.window.finished.now).sample records marks working
