-- The deblocking filter over the edges of 8 by 8 blocks inside a segment. An edge runs along one coordinate and is crossed over the other:
-- edge n lies before coordinate 8 * n, with two samples before it and two after. What is said here of horizontal edges, which run across and
-- are crossed going down, holds of vertical ones in the picture turned, which has across and down exchanged. Assumes nothing.
use Rattle.std.specs.Prelude.{◌≡◌, ℕ, ◌+◌, ◌-◌, ◌*◌, ◌/◌, ◌%◌, ◌<◌, ◌≤◌, Bool, true, false, cond, ◌&&◌, List, Some, None, Option, ◌==◌, nat_le, nat_lt, slice_index_or}
use Rattle.std.specs.Option.{option_or}
use Rattle.pictures.specs.Pictures.{Picture, covers, painted, side}
use Rattle.pictures.specs.declared.layouts.Segment.{Segment}
use Rattle.samples.specs.Deblocking.{deblocked, strength_of}
use Rattle.samples.specs.declared.deblocking.Four.{Four}
use Rattle.deblocking.specs.declared.Direction.{Direction}
use Rattle.deblocking.specs.declared.Direction.TheVariants.{Horizontal, Vertical}

-- vertical edges are horizontal ones in the picture turned
abbrev pub is_vertical : Direction → Bool
is_vertical Horizontal = false
is_vertical Vertical = true

-- a place or a macroblock along and over an edge, by across and down
abbrev pub across_of : Bool → ℕ → ℕ → ℕ
across_of turned along over = cond turned over along

abbrev pub down_of : Bool → ℕ → ℕ → ℕ
down_of turned along over = cond turned along over

-- a picture and a segment by along and over
abbrev pub turn : Bool → Picture → Picture
turn turned f =
    record { wide = cond turned f.high f.wide; high = cond turned f.wide f.high; sample = λ q along over. f.sample q (across_of turned along over) (down_of turned along over) }

abbrev pub turn_segment : Bool → Segment → Segment
turn_segment true s = record { left = s.top; right = s.bottom; top = s.left; bottom = s.right }
turn_segment false s = s

-- the edge that a coordinate is next to, and which of its four samples lies there: none where that is 4 or more
abbrev pub edge : ℕ → ℕ
edge v = (v + 2) / 8

abbrev pub role : ℕ → ℕ
role v = (v + 2) % 8

-- the first of an edge's four samples
abbrev pub first : ℕ → ℕ
first n = n * 8 - 2

abbrev pub four_from : (ℕ → ℕ → ℕ → ℕ) → ℕ → ℕ → ℕ → Four
four_from f q u v = record { a = f q u v; b = f q u (v + 1); c = f q u (v + 2); d = f q u (v + 3) }

abbrev pub of_role : ℕ → Four → ℕ
of_role j s = cond (j == 0) s.a (cond (j == 1) s.b (cond (j == 2) s.c s.d))

-- what is kept where there is no mark, and else what changes by its quantizer
abbrev pub where_marked : {X : Type 0} → Option ℕ → X → (ℕ → X) → X
where_marked None keep change = keep
where_marked (Some quantizer) keep change = change quantizer

-- the sample that a place at an edge gets, where k has the quantizer of each plane's edges at each place along them: what the deblocking
-- of the edge's four samples makes of it, and what stood there where there is no quantizer
unfoldable pub deblocked_at : (ℕ → ℕ → ℕ → Option ℕ) → (ℕ → ℕ → ℕ → ℕ) → ℕ → ℕ → ℕ → ℕ
deblocked_at k f q u v =
    where_marked (k q u (edge v)) (f q u v) (λ quantizer. of_role (role v) (deblocked (strength_of quantizer) (four_from f q u (first (edge v)))))

-- the mark of a macroblock, in a table by rows of so many columns: its quantizer, or absence
abbrev pub mark_in : List (Option ℕ) → ℕ → ℕ → ℕ → Option ℕ
mark_in marks columns column row = slice_index_or marks (row * columns + column) None

-- the mark that edge n is filtered by between two macroblocks of this number along it: that of the one after the edge, else of the one before
abbrev pub edge_mark : List (Option ℕ) → ℕ → Bool → ℕ → ℕ → ℕ → Option ℕ
edge_mark marks columns turned side along n =
    option_or (mark_in marks columns (across_of turned along (n * 8 / side)) (down_of turned along (n * 8 / side)))
    (mark_in marks columns (across_of turned along ((n * 8 - 1) / side)) (down_of turned along ((n * 8 - 1) / side)))

-- the quantizer by which edge n of plane q is filtered at u along it, if any
abbrev pub quantizer_at : List (Option ℕ) → ℕ → Bool → ℕ → ℕ → ℕ → Option ℕ
quantizer_at marks columns turned q u n = edge_mark marks columns turned (side q) (u / side q) n

-- the number of the edge that a macroblock begins with in plane p, from the macroblock's number over the edges
abbrev pub border : ℕ → ℕ → ℕ
border p macroblock = macroblock * (side p / 8)

-- the places of plane p at the edges with a number of at least from and below to, from low to before high along them
unfoldable pub edges : ℕ → ℕ → ℕ → ℕ → ℕ → ℕ → ℕ → ℕ → Bool
edges p low high from to q u v = p == q && ((nat_le low u && nat_lt u high) && (nat_lt (role v) 4 && (nat_le from (edge v) && nat_lt (edge v) to)))

-- the places at the edges strictly inside a segment: not at those on its border
unfoldable pub edges_in : Segment → ℕ → ℕ → ℕ → Bool
edges_in s q u v =
    (nat_le (s.left * side q) u && nat_lt u (s.right * side q)) && (nat_lt (role v) 4 && (nat_lt (s.top * side q) (edge v * 8) && nat_lt (edge v * 8) (s.bottom * side q)))

-- the places of edge n of plane p between the macroblocks from left to before right along it
abbrev pub edge_along : ℕ → ℕ → ℕ → ℕ → ℕ → ℕ → ℕ → Bool
edge_along p n left right = edges p (left * side p) (right * side p) n (n + 1)

-- the picture after is the one before with these places at the edges of a direction deblocked, each by its quantizer; places and quantizers are given by along
-- and over the edges
abbrev pub FilteredAt : Direction → (ℕ → ℕ → ℕ → Bool) → (ℕ → ℕ → ℕ → Option ℕ) → Picture → Picture → Type 0
FilteredAt direction places quantizers before after =
    let t = is_vertical direction in turn t after ≡ painted places (deblocked_at quantizers (turn t before).sample) (turn t before)

-- the same, where the quantizers are those that a table of marks has
abbrev pub FilteredByMarks : Direction → (ℕ → ℕ → ℕ → Bool) → List (Option ℕ) → ℕ → Picture → Picture → Type 0
FilteredByMarks direction places marks columns before after = FilteredAt direction places (quantizer_at marks columns (is_vertical direction)) before after

-- the picture with a segment's horizontal edges filtered, or, turned, with its vertical ones
abbrev pub filtered_over : Bool → List (Option ℕ) → Segment → Picture → Picture
filtered_over turned marks s f =
    turn turned (painted (edges_in (turn_segment turned s)) (deblocked_at (quantizer_at marks f.wide turned) (turn turned f).sample) (turn turned f))

-- the picture with a segment's edges filtered: the horizontal ones first, then in the result the vertical ones
abbrev pub filtered : List (Option ℕ) → Segment → Picture → Picture
filtered marks s f = filtered_over true marks s (filtered_over false marks s f)

-- two tables have the same marks in a segment's cells, and two pictures the same samples at its places
abbrev pub SameMarks : ℕ → Segment → List (Option ℕ) → List (Option ℕ) → Type 0
SameMarks columns s marks marks' =
    (column row : ℕ) → s.left ≤ column → column < s.right → s.top ≤ row → row < s.bottom → mark_in marks columns column row ≡ mark_in marks' columns column row

abbrev pub SameSamples : Segment → Picture → Picture → Type 0
SameSamples s f g = (q u v : ℕ) → covers s q u v ≡ true → f.sample q u v ≡ g.sample q u v

-- the filter of a segment changes no sample outside it, and its result rests on no sample and on no mark outside it
pub record Local (s : Segment) : Type 0 where
  pub outside : (marks : List (Option ℕ)) (f : Picture) (q u v : ℕ) → covers s q u v ≡ false → (filtered marks s f).sample q u v ≡ f.sample q u v
  pub within : (marks marks' : List (Option ℕ)) (f g : Picture) → f.wide ≡ g.wide → f.high ≡ g.high
      → SameMarks f.wide s marks marks' → SameSamples s f g → SameSamples s (filtered marks s f) (filtered marks' s g)
