-- The size of a store over memory that has room for so many macroblocks, and what it keeps where.
use Rattle.std.specs.Prelude.{◌≡◌, ℕ, ◌*◌, ◌/◌, ◌<◌, ◌≤◌, Bool, true, false, cond, Some, None, Option, is_some, MatchOption, List, length, nat_le, nat_lt, slice_index_or}
use Rattle.pictures.specs.declared.formats.Format.{Format}
use Rattle.pictures.specs.declared.layouts.Segment.{Segment}
use Rattle.pictures.specs.Formats.{columns_of, format_of_number, rows_of}
use Rattle.pictures.specs.Pictures.{Picture, inside}

-- the format, if there is one and room for all its macroblocks
abbrev pub fitting : Option Format → ℕ → Option Format
fitting (Some format) room = cond (nat_le (columns_of format * rows_of format) room) (Some format) None
fitting None room = None

-- there is such a format, and room for all its macroblocks
abbrev pub has_room : Option Format → ℕ → Bool
has_room format room = is_some (fitting format room)

-- the columns and rows of a format, and none where there is none
abbrev pub size_of : Option Format → ℕ × ℕ
size_of (Some format) = (columns_of format, rows_of format)
size_of None = (0, 0)

-- what a store has over such room: the format's columns and rows, or none
abbrev pub size_in : Option Format → ℕ → ℕ × ℕ
size_in format room = size_of (fitting format room)

-- the picture of a store that is made of cells for the format of a number, at so many cells to a macroblock, where cells are seen so
abbrev pub made : {C : Type 0} → (ℕ → ℕ → List C → Picture) → ℕ → ℕ → List C → Picture
made seen per format cells = seen (size_in (format_of_number format) (length cells / per)).0 (size_in (format_of_number format) (length cells / per)).1 cells

-- the first so many cells are those of other memory, and all others what they were
abbrev pub FrontCopied : {C : Type 0} → ℕ → List C → List C → List C → Type 0
FrontCopied {C} count from old new = (k : ℕ) (d : C) → slice_index_or new k d ≡ cond (nat_lt k count) (slice_index_or from k d) (slice_index_or old k d)

-- a place inside has the number of its sample in the order of memory, which is one of the samples there
pub record PlacedAt (columns rows : ℕ) (address : ℕ → ℕ → ℕ → ℕ) (p x y at : ℕ) : Type 0 where
  pub isin : inside columns rows p x y ≡ true
  pub from : at ≡ address p x y
  pub kept : at < columns * rows * 384

-- and one outside has none
abbrev pub Placed : ℕ → ℕ → (ℕ → ℕ → ℕ → ℕ) → ℕ → ℕ → ℕ → Option ℕ → Type 0
Placed columns rows address p x y place = MatchOption place (inside columns rows p x y ≡ false) (λ at. PlacedAt columns rows address p x y at)

-- a segment is the whole picture
pub record WholePicture (columns rows : ℕ) (s : Segment) : Type 0 where
  pub left : s.left ≡ 0
  pub right : s.right ≡ columns
  pub top : s.top ≡ 0
  pub bottom : s.bottom ≡ rows

-- a segment lies inside the picture
pub record LiesIn (columns rows : ℕ) (s : Segment) : Type 0 where
  pub rightwards : s.left ≤ s.right
  pub across : s.right ≤ columns
  pub downwards : s.top ≤ s.bottom
  pub down : s.bottom ≤ rows
