-- The byte store: plane 0 by rows, then planes 1 and 2, a byte to a sample.
use Rattle.std.specs.Prelude.{◌≡◌, ℕ, ◌+◌, ◌*◌, ◌%◌, ◌<◌, ◌≤◌, true, List, slice_index}
use Rattle.pictures.specs.Pictures.{Picture, inside, seen, side, start}

-- where a sample is kept
unfoldable pub byte_address : ℕ → ℕ → ℕ → ℕ → ℕ → ℕ
byte_address columns rows p x y = start p * (columns * rows) + (y * (columns * side p) + x)

-- the sample at an address
abbrev pub byte_at : List ℕ → ℕ → ℕ
byte_at bytes a = slice_index bytes a % 256

-- so many bytes hold the samples of a row of plane p from x on, before right
pub record RunAt (columns rows p x y right at count : ℕ) : Type 0 where
  pub isin : inside columns rows p x y ≡ true
  pub from : at ≡ byte_address columns rows p x y
  pub some : 0 < count
  pub ends : x + count ≤ right
  pub in_row : x + count ≤ columns * side p
  pub kept : at + count ≤ columns * rows * 384

-- eight bytes from each of eight places on, so far apart, hold the samples of the square of 8 by 8 in plane p from x and y on
pub record RowsAt (columns rows p x y at stride : ℕ) : Type 0 where
  pub last : inside columns rows p (x + 7) (y + 7) ≡ true
  pub from : at ≡ byte_address columns rows p x y
  pub apart : stride ≡ columns * side p
  pub kept : at + 7 * stride + 8 ≤ columns * rows * 384

-- the picture that bytes hold, where it has so many columns and rows
abbrev pub bytes_seen : ℕ → ℕ → List ℕ → Picture
bytes_seen columns rows bytes = seen columns rows (byte_address columns rows) (byte_at bytes)
