-- What the memory that a caller supplies holds, and whether it has the size of a format.
use Rattle.std.specs.Prelude.{ℕ, ◌*◌, Bool, ◌&&◌, List, length, Option, ◌==◌}
use Rattle.motion.specs.declared.vectors.Vector.{Vector}
use Rattle.pictures.specs.declared.formats.Format.{Format}
use Rattle.pictures.specs.Formats.{columns_of, rows_of}
use Rattle.pictures.specs.Pictures.{Picture}

-- two stores, by the pictures that they mean, and four tables with a cell for each macroblock in raster order
pub record Held : Type 0 where
  pub finished : Picture
  pub working : Picture
  pub finished_ages : List ℕ
  pub working_ages : List ℕ
  pub vectors : List Vector
  pub marks : List (Option ℕ)

abbrev pub cells_of : Format → ℕ
cells_of format = columns_of format * rows_of format

-- a store, and a table, has exactly the size of a format
abbrev pub fits_store : Format → Picture → Bool
fits_store format f = f.wide == columns_of format && f.high == rows_of format

abbrev pub fits_table : {X : Type 0} → Format → List X → Bool
fits_table format cells = length cells == cells_of format

-- what stands beside the finished store and the finished ages
abbrev pub fits_rest : Format → Held → Bool
fits_rest format h =
    fits_store format h.working && (fits_table format h.working_ages && (fits_table format h.vectors && fits_table format h.marks))

-- all six
abbrev pub fits : Format → Held → Bool
fits format h = fits_store format h.finished && (fits_table format h.finished_ages && fits_rest format h)
