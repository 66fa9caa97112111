-- What an accepted delivery makes of its segment. Assumes nothing.
use Rattle.std.specs.Prelude.{◌≡◌, ℕ, ◌-◌, ◌*◌, List, [], ◌++◌, length, take, drop, ℤ, Ok, Err, Option, Result}
use Rattle.records.specs.declared.types.Macroblock.{Macroblock}
use Rattle.records.specs.declared.types.PictureKind.{PictureKind}
use Rattle.records.specs.Deliveries.{read}
use Rattle.motion.specs.Vectors.{vectors_of}
use Rattle.pictures.specs.declared.layouts.Segment.{Segment}
use Rattle.pictures.specs.Pictures.{Picture, covers, painted}
use Rattle.deblocking.specs.Edges.{filtered}
use Rattle.rebuild.specs.Segments.{cell_at, samples_by}

-- the macroblocks of a segment, and across it
abbrev pub width_of : Segment → ℕ
width_of s = s.right - s.left

abbrev pub count_of : Segment → ℕ
count_of s = (s.bottom - s.top) * width_of s

-- a segment has all columns of a picture that has so many, so that its cells follow one another in a table of the picture
abbrev pub Spans : Segment → ℕ → Type 0
Spans s columns = (s.left ≡ 0) × (s.right ≡ columns)

-- the first cell of such a segment in a table of the whole picture
abbrev pub first_cell : Segment → ℕ
first_cell s = s.top * width_of s

-- the records of a delivery that is accepted
abbrev pub records_or_none : {F : Type 0} → Result (List Macroblock) F → List Macroblock
records_or_none (Ok records) = records
records_or_none (Err f) = []

unfoldable pub delivery_records : PictureKind → ℕ → List ℕ → List Macroblock
delivery_records kind count bytes = records_or_none (read kind count bytes)

-- a table in which the cells from a place on are set
abbrev pub set_from : {X : Type 0} → ℕ → List X → List X → List X
set_from first cells table = take first table ++ (cells ++ drop (length cells) (drop first table))

-- the segment's samples before the filter
abbrev pub unfiltered : (List ℤ → ℕ → ℕ → ℤ) → Segment → ℕ → (ℕ → ℕ → ℕ → ℕ) → List Macroblock → Picture → Picture
unfiltered meaning s rounding finished records working =
    painted (covers s) (samples_by meaning s rounding finished records (vectors_of (width_of s) records) (cell_at s)) working

-- the picture with the segment rebuilt: each macroblock is predicted and corrected, and then the edges inside the segment are filtered by the marks
abbrev pub rebuilt : (List ℤ → ℕ → ℕ → ℤ) → Segment → ℕ → (ℕ → ℕ → ℕ → ℕ) → List Macroblock → List (Option ℕ) → Picture → Picture
rebuilt meaning s rounding finished records marks working = filtered marks s (unfiltered meaning s rounding finished records working)
