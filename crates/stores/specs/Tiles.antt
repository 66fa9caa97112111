-- The tiled word store: macroblocks in raster order, each with its 256 samples of plane 0, its 64 of plane 1 and its 64 of plane 2, by rows;
-- four neighbours of a row to a word of 32 bits, the leftmost in the top bits.
use Rattle.std.specs.Prelude.{◌≡◌, ℕ, ◌+◌, ◌*◌, ◌/◌, ◌%◌, ◌<◌, ◌≤◌, ◌==◌, cond, true, List, [], ◌∷◌, slice_index}
use Rattle.pictures.specs.Pictures.{Picture, inside, seen, side, start}

-- the number of a sample in the order of memory
unfoldable pub tile_address : ℕ → ℕ → ℕ → ℕ → ℕ
tile_address columns p x y = (y / side p * columns + x / side p) * 384 + (start p + (y % side p * side p + x % side p))

-- the four samples of a word
abbrev pub four : ℕ → List ℕ
four word = (word / 16777216 % 256) ∷ (word / 65536 % 256) ∷ (word / 256 % 256) ∷ (word % 256) ∷ []

-- the sample of a number: four to a word
abbrev pub lane_at : List ℕ → ℕ → ℕ
lane_at words a = slice_index (four (slice_index words (a / 4))) (a % 4)

-- the word of four samples
abbrev pub joined : List ℕ → ℕ
joined bytes = slice_index bytes 0 * 16777216 + slice_index bytes 1 * 65536 + slice_index bytes 2 * 256 + slice_index bytes 3

-- the word that row y of plane p begins with, in the first column of macroblocks
abbrev pub row_word : ℕ → ℕ → ℕ → ℕ
row_word columns p y = cond (p == 0) (y / 16 * columns * 96 + y % 16 * 4) (y / 8 * columns * 96 + (start p / 4 + y % 8 * 2))

-- and how far after it the row's word n lies
abbrev pub column_word : ℕ → ℕ → ℕ
column_word p n = cond (p == 0) (n / 4 * 96 + n % 4) (n / 2 * 96 + n % 2)

-- the word that holds the sample of plane p at x and y
pub record WordOf (columns rows p x y word : ℕ) : Type 0 where
  pub holds : tile_address columns p x y / 4 ≡ word
  pub kept : word < columns * rows * 96

-- so many samples of a row of plane p, from x on
abbrev pub Row : Picture → ℕ → ℕ → ℕ → ℕ → List ℕ → Type 0
Row f p x y n samples = (i : ℕ) → i < n → slice_index samples i ≡ f.sample p (x + i) y

-- a word that holds the four samples of a row of plane p from x on, before right
pub record WordAt (columns rows p x y right word : ℕ) : Type 0 where
  pub isin : inside columns rows p x y ≡ true
  pub begins : x % 4 ≡ 0
  pub ends : x + 4 ≤ right
  pub holds : tile_address columns p x y / 4 ≡ word
  pub kept : word < columns * rows * 96

-- the square of 8 by 8 in plane p from x and y on lies inside, and words begin at its left side
pub record SquareAt (columns rows p x y : ℕ) : Type 0 where
  pub begins : x % 4 ≡ 0
  pub last : inside columns rows p (x + 7) (y + 7) ≡ true

-- the picture that words hold, where it has so many columns and rows
abbrev pub tiles_seen : ℕ → ℕ → List ℕ → Picture
tiles_seen columns rows words = seen columns rows (tile_address columns) (lane_at words)
