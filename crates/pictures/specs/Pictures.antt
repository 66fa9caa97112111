-- Pictures: so many columns and rows of macroblocks, in three planes of samples. Plane 0 is luma, with 16 by 16 samples to a macroblock;
-- planes 1 and 2 are chroma, with 8 by 8.
use Rattle.std.specs.Prelude.{◌≡◌, ℕ, ◌+◌, ◌-◌, ◌*◌, ◌/◌, ◌%◌, ◌<◌, Bool, List, slice_index, cond, ◌&&◌, Some, None, Option, ◌==◌, nat_le, nat_lt}
use Rattle.pictures.specs.declared.layouts.Segment.{Segment}

-- the samples across, and down, that a macroblock has in plane p
abbrev pub side : ℕ → ℕ
side p = cond (p == 0) 16 8

-- how many samples a macroblock has in the planes before plane p
abbrev pub start : ℕ → ℕ
start p = cond (p == 0) 0 (cond (p == 1) 256 320)

-- the place x across and y down in plane p is one of a picture of so many columns and rows
unfoldable pub inside : ℕ → ℕ → ℕ → ℕ → ℕ → Bool
inside columns rows p x y = nat_lt p 3 && (nat_lt x (columns * side p) && nat_lt y (rows * side p))

-- a picture: its size in macroblocks and its samples by plane, across and down
pub record Picture : Type 0 where
  pub wide : ℕ
  pub high : ℕ
  pub sample : ℕ → ℕ → ℕ → ℕ

-- a place is one of the picture's
abbrev pub has : Picture → ℕ → ℕ → ℕ → Bool
has f p x y = inside f.wide f.high p x y

-- what a reading answers: the sample inside, and absence outside
abbrev pub reading : Picture → ℕ → ℕ → ℕ → Option ℕ
reading f p x y = cond (has f p x y) (Some (f.sample p x y)) None

-- the picture in which these places have new samples, and all others what they had; the places outside have none
abbrev pub painted : (ℕ → ℕ → ℕ → Bool) → (ℕ → ℕ → ℕ → ℕ) → Picture → Picture
painted places new f =
    record { wide = f.wide; high = f.high; sample = λ q u v. cond (has f q u v && places q u v) (new q u v) (f.sample q u v) }

-- this very place
unfoldable pub here : ℕ → ℕ → ℕ → ℕ → ℕ → ℕ → Bool
here p x y q u v = p == q && (x == u && y == v)

-- the places of one row of plane p from left to before right
unfoldable pub span : ℕ → ℕ → ℕ → ℕ → ℕ → ℕ → ℕ → Bool
span p y left right q u v = p == q && (y == v && (nat_le left u && nat_lt u right))

-- the places of a rectangle of macroblocks, in all planes
unfoldable pub covers : Segment → ℕ → ℕ → ℕ → Bool
covers s q u v = nat_le (s.left * side q) u && (nat_lt u (s.right * side q) && (nat_le (s.top * side q) v && nat_lt v (s.bottom * side q)))

-- one row of a rectangle's macroblocks
abbrev pub row_in : Segment → ℕ → Segment
row_in s row = record s { top = row; bottom = row + 1 }

-- the picture after a writing: that place, if inside, has the value, and every other place what it had
abbrev pub written : Picture → ℕ → ℕ → ℕ → ℕ → Picture
written f p x y value = painted (here p x y) (λ _ _ _. value) f

-- the places of the square of 8 by 8 in plane p from x and y on
unfoldable pub square_at : ℕ → ℕ → ℕ → ℕ → ℕ → ℕ → Bool
square_at p x y q u v = p == q && (nat_le x u && (nat_lt u (x + 8) && (nat_le y v && nat_lt v (y + 8))))

-- the samples of that square, by rows
abbrev pub Square : Picture → ℕ → ℕ → ℕ → List ℕ → Type 0
Square f p x y values = (k : ℕ) → k < 64 → slice_index values k ≡ f.sample p (x + k % 8) (y + k / 8)

-- the picture after a writing of that square, by rows: of its places those inside have the values
abbrev pub painted_square : Picture → ℕ → ℕ → ℕ → List ℕ → Picture
painted_square f p x y values = painted (square_at p x y) (λ _ u v. slice_index values (8 * (v - y) + (u - x))) f

-- the samples that cells of memory hold, where each place has an address; 0 outside
abbrev pub seen : ℕ → ℕ → (ℕ → ℕ → ℕ → ℕ) → (ℕ → ℕ) → Picture
seen columns rows address cell =
    record { wide = columns; high = rows; sample = λ p x y. cond (inside columns rows p x y) (cell (address p x y)) 0 }
