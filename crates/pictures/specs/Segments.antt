-- Layouts: how a picture is cut into segments. A layout is a number whose bit r is set when a segment begins at macroblock row r.
-- Segments are numbered from 0 downwards and span all columns. The first begins at row 0 whatever bit 0 says, and the bits at and above
-- the row count begin nothing; a layout in which these bits are as they should be is sound.
use Rattle.std.specs.Prelude.{◌≡◌, ℕ, zero, suc, ◌-◌, ◌/◌, ◌%◌, ◌^◌, ◌<◌, ◌≤◌, Bool, cond, ◌&&◌, ◌==◌, nat_le, nat_lt}
use Rattle.pictures.specs.declared.formats.Format.{Format}
use Rattle.pictures.specs.declared.layouts.Segment.{Segment}
use Rattle.pictures.specs.Formats.{columns_of, rows_of}

unfoldable pub has_bit : ℕ → ℕ → Bool
has_bit number bit = number / 2 ^ bit % 2 == 1

-- bit 0 is set, and no bit at or above the row count
unfoldable pub sound : Format → ℕ → Bool
sound format layout = has_bit layout 0 && nat_lt layout (2 ^ rows_of format)

-- the number of the segment that a macroblock row belongs to
unfoldable pub segment_of_row : ℕ → ℕ → ℕ
segment_of_row layout zero = 0
segment_of_row layout (suc row) = cond (has_bit layout (suc row)) (suc (segment_of_row layout row)) (segment_of_row layout row)

-- of the rows below n, how many belong to a segment with a lower number than k
unfoldable pub rows_before : ℕ → ℕ → ℕ → ℕ
rows_before layout k zero = 0
rows_before layout k (suc n) = cond (nat_lt (segment_of_row layout n) k) (suc (rows_before layout k n)) (rows_before layout k n)

-- the row that segment k begins at
unfoldable pub first_row : Format → ℕ → ℕ → ℕ
first_row format layout k = rows_before layout k (rows_of format)

-- how many segments the picture has
unfoldable pub segment_count : Format → ℕ → ℕ
segment_count format layout = suc (segment_of_row layout (rows_of format - 1))

-- segment k as a rectangle of macroblocks, without the right column and the bottom row
abbrev pub segment_at : Format → ℕ → ℕ → Segment
segment_at format layout k =
    record { left = 0; right = columns_of format; top = first_row format layout k; bottom = first_row format layout (suc k) }

-- What holds of the segments of every layout.
pub record Segmented (format : Format) (layout : ℕ) : Type 0 where
  -- numbers begin with 0 in the top row and rise downwards
  pub first : segment_of_row layout 0 ≡ 0
  pub downwards : (r s : ℕ) → r ≤ s → segment_of_row layout r ≤ segment_of_row layout s
  -- every row of the picture belongs to one of the segments
  pub below_count : (r : ℕ) → r < rows_of format → segment_of_row layout r < segment_count format layout
  -- and a segment's rows are just those from its top to above its bottom
  pub between : (k r : ℕ) → r < rows_of format
      → (segment_of_row layout r == k) ≡ (nat_le (segment_at format layout k).top r && nat_lt r (segment_at format layout k).bottom)
  -- no segment is without a row, none runs upwards, and none leaves the picture
  pub some_row : (k : ℕ) → k < segment_count format layout → (segment_at format layout k).top < (segment_at format layout k).bottom
  pub in_order : (k : ℕ) → (segment_at format layout k).top ≤ (segment_at format layout k).bottom
  pub in_picture : (k : ℕ) → (segment_at format layout k).bottom ≤ rows_of format
