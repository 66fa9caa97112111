-- The places and cells of a segment, among those of the whole picture.
use Rattle.std.proofs.Common.{◌≡◌, ℕ, suc, ◌+◌, ◌-◌, ◌*◌, ◌<◌, ◌≤◌, true, cond, ◌&&◌, eqb, ltb, leb, ◌⊎◌, List, length, get_or, sym, ap, ◌∙◌, inl, inr, ⊎_elim, mul_comm, add-mul, arith}
use Rattle.std.proofs.lemmas.Nat.{mul-le}
use Rattle.std.proofs.lemmas.Bool.{and_from, and_parts, cases_lt, le-leb, le-ltb, lt-leb, lt-ltb, ltb-true}
use Rattle.std.proofs.lemmas.Bool.Decides.{nat_tests}
use Rattle.pictures.specs.declared.formats.Format.{Format}
use Rattle.pictures.specs.Formats.{columns_of, rows_of}
use Rattle.pictures.specs.Pictures.{covers, inside, side}
use Rattle.pictures.specs.Segments.{first_row, segment_at, segment_of_row}
use Rattle.pictures.proofs.Rows.{segmented}
use Rattle.pictures.proofs.Addresses.{before_border, from_border}
use Rattle.rebuild.specs.Rebuilt.{count_of, first_cell, set_from}
use Rattle.rebuild.proofs.Cells.{rows_join}
use Rattle.calls.specs.Held.{cells_of}
use Rattle.calls.specs.Laws.{in_picture, macroblock_row}
use Rattle.calls.specs.Questions.{in_grid}
use Rattle.calls.proofs.Sizes.{cells_fit}
use Rattle.calls.proofs.Tables.{set_after, set_before, set_own}

pub grid_says : (format : Format) (c r : ℕ) → in_grid format c r ≡ true → (c < columns_of format) × (r < rows_of format)
unfolding in_grid
grid_says format c r i = (grind (arith, nat_tests), grind (arith, nat_tests))

pub row_below : (format : Format) (p x y : ℕ) → in_picture format p x y ≡ true → macroblock_row p y < rows_of format
unfolding inside
row_below format p x y i =
    let a = and_parts (ltb p 3) _ i in
    let b = and_parts (ltb x (columns_of format * side p)) (ltb y (rows_of format * side p)) a.1 in
    ltb-true _ _ (sym (before_border p y (rows_of format)) ∙ b.1)

-- a segment's places are those whose row is the segment's
pub covers_is : (format : Format) (l k p x y : ℕ) → in_picture format p x y ≡ true → covers (segment_at format l k) p x y ≡ eqb (segment_of_row l (macroblock_row p y)) k
unfolding covers inside
covers_is format l k p x y i =
    let a = and_parts (ltb p 3) _ i in
    let b = and_parts (ltb x (columns_of format * side p)) (ltb y (rows_of format * side p)) a.1 in
    let z : leb (0 * side p) x ≡ true = from_border p x 0 ∙ le-leb 0 _ (omega arith) in
    simp (z, b.0, from_border p y (first_row format l k), before_border p y (first_row format l (suc k)))
    (sym ((segmented format l).between k (macroblock_row p y) (row_below format p x y i)))

-- and the picture's, in its planes
pub covered_inside : (format : Format) (l k p x y : ℕ) → ltb p 3 ≡ true → covers (segment_at format l k) p x y ≡ true → in_picture format p x y ≡ true
unfolding covers inside
covered_inside format l k p x y e c =
    let a = and_parts (leb (0 * side p) x) _ c in
    let b = and_parts (ltb x (columns_of format * side p)) _ a.1 in
    let d = and_parts (leb (first_row format l k * side p) y) _ b.1 in
    let t : macroblock_row p y < first_row format l (suc k) = ltb-true _ _ (sym (before_border p y (first_row format l (suc k))) ∙ d.1) in
    let u : macroblock_row p y < rows_of format = omega (arith, (segmented format l).in_picture k) in
    and_from _ _ e (and_from _ _ b.0 (before_border p y (rows_of format) ∙ lt-ltb _ _ u))

pub plane_says : (format : Format) (p x y : ℕ) → in_picture format p x y ≡ true → ltb p 3 ≡ true
unfolding inside
plane_says format p x y i = (and_parts (ltb p 3) _ i).0

-- rows of cells
pub row_first : (a r columns c : ℕ) → a ≤ r → r * columns + c ≡ a * columns + ((r - a) * columns + c)
row_first a r columns c h = let j = rows_join a r columns h in omega arith

pub row_last : (r b columns c : ℕ) → r < b → c < columns → r * columns + c < b * columns
row_last r b columns c h l =
    let m = mul-le (r + 1) columns b columns (omega arith) (omega arith) in
    let e = add-mul r 1 columns in
    omega arith

pub cell_in : (format : Format) (c r : ℕ) → in_grid format c r ≡ true → r * columns_of format + c < cells_of format
cell_in format c r i =
    let g = grid_says format c r i in
    omega (arith, row_last r (rows_of format) (columns_of format) c g.1 g.0, mul_comm (rows_of format) (columns_of format))

-- a table of which the cells of some rows are set
module _ {X : Type 0} (top bottom columns c r : ℕ) (cells table : List X) (d : X)
    (order : top ≤ bottom) (column : c < columns) (all : length cells ≡ (bottom - top) * columns) (fit : top * columns + (bottom - top) * columns ≤ length table) where
  abbrev SetRows : Type 0
  SetRows =
      get_or (set_from (top * columns) cells table) (r * columns + c) d
      ≡ cond (leb top r && ltb r bottom) (get_or cells ((r - top) * columns + c) d) (get_or table (r * columns + c) d)

  fitting : top * columns + length cells ≤ length table
  fitting = omega (arith, all, fit)

  past_top : top ≤ r → (r < bottom) ⊎ (bottom ≤ r) → SetRows
  past_top a (inl b) =
      let j = row_first top r columns c a in
      let e : r * columns + c - top * columns ≡ (r - top) * columns + c = omega arith in
      let m = row_last (r - top) (bottom - top) columns c (omega arith) column in
      simp (le-leb top r a, lt-ltb r bottom b)
      (set_own (top * columns) cells table fitting (r * columns + c) d (omega arith) (omega (arith, all)) ∙ ap (λ i. get_or cells i d) e)
  past_top a (inr b) =
      let j = row_first bottom r columns c b in
      let m = rows_join top bottom columns order in
      simp (le-leb top r a, le-ltb r bottom b)
      (set_after (top * columns) cells table fitting (r * columns + c) d (omega (arith, all)))

  pub set_rows : SetRows
  set_rows =
      ⊎_elim
      (λ (a : r < top). simp (lt-leb top r a) (set_before (top * columns) cells table fitting (r * columns + c) d (row_last r top columns c a column)))
      (λ (a : top ≤ r). past_top a (cases_lt r bottom))
      (cases_lt r top)

-- of which a segment's cells are set
pub set_cell : {X : Type 0} (format : Format) (l k c r : ℕ) (cells table : List X) (d : X) → in_grid format c r ≡ true
    → length cells ≡ count_of (segment_at format l k) → length table ≡ cells_of format
    → get_or (set_from (first_cell (segment_at format l k)) cells table) (r * columns_of format + c) d
    ≡ cond (eqb (segment_of_row l r) k) (get_or cells ((r - first_row format l k) * columns_of format + c) d) (get_or table (r * columns_of format + c) d)
set_cell format l k c r cells table d i all e =
    let w : columns_of format - 0 ≡ columns_of format = omega arith in
    let g = grid_says format c r i in
    let s = segmented format l in
    let f = cells_fit format l k in
    let f' : first_row format l k * columns_of format + (first_row format l (suc k) - first_row format l k) * columns_of format ≤ length table = rw e (rw w at f) in
    rw (w, s.between k r g.1)
    (set_rows (first_row format l k) (first_row format l (suc k)) (columns_of format) c r cells table d (s.in_order k) g.0 (rw w at all) f')
