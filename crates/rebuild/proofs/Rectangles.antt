-- A row of a segment's macroblocks that grows column by column, and the samples and cells of a row.
use Rattle.std.proofs.Common.{◌≡◌, ℕ, zero, suc, ◌+◌, ◌-◌, ◌*◌, ◌/◌, ◌<◌, ◌≤◌, true, false, ◌||◌, List, ◌∷◌, length, get_or, drop, ℤ, sym, refl, ap, ◌∙◌, add-mul, arith, get_or-drop}
use Rattle.std.proofs.lemmas.List.{drop_more}
use Rattle.records.specs.declared.types.Macroblock.{Macroblock}
use Rattle.records.specs.declared.types.Macroblock.TheVariants.{Skipped}
use Rattle.motion.specs.declared.vectors.Vector.{Vector}
use Rattle.motion.specs.Vectors.{zero_vector}
use Rattle.std.proofs.lemmas.Bool.Decides.{nat_tests}
use Rattle.pictures.specs.declared.layouts.Segment.{Segment}
use Rattle.pictures.specs.Pictures.{covers, row_in, side}
use Rattle.rebuild.specs.Macroblocks.{macroblock_sample, segment_of_one}
use Rattle.rebuild.specs.Segments.{cell_at, column_at, samples_by}
use Rattle.rebuild.proofs.Cells.{macroblock_inside}

-- of a row's macroblocks those left of a column
abbrev pub columns_before : Segment → ℕ → ℕ → Segment
columns_before s row column = record { left = s.left; right = column; top = row; bottom = row + 1 }

pub no_columns : (s : Segment) (row q u v : ℕ) → covers (columns_before s row s.left) q u v ≡ false
unfolding covers
no_columns s row q u v = grind (arith, nat_tests)

pub columns_more : (s : Segment) (row column q u v : ℕ) → s.left ≤ column
    → covers (columns_before s row (column + 1)) q u v ≡ (covers (segment_of_one column row) q u v || covers (columns_before s row column) q u v)
unfolding covers
columns_more s row column zero u v h = grind (arith, nat_tests)
columns_more s row column (suc q) u v h = grind (arith, nat_tests)

-- a macroblock's samples, by its cell
pub samples_by_lem : (meaning : List ℤ → ℕ → ℕ → ℤ) (s : Segment) (rounding : ℕ) (picture : ℕ → ℕ → ℕ → ℕ) (records : List Macroblock) (vectors : List Vector) (cell : ℕ → ℕ → ℕ → ℕ) (m : Macroblock) (vector : Vector) (q u v i : ℕ)
    → cell q u v ≡ i → get_or records i Skipped ≡ m → vector ≡ get_or vectors i zero_vector
    → macroblock_sample meaning s rounding picture m vector q u v ≡ samples_by meaning s rounding picture records vectors cell q u v
unfolding samples_by
samples_by_lem meaning s rounding picture records vectors cell m vector q u v i e f g = rw (e, f, ← g) refl

pub next_is : {X : Type 0} (xs : List X) (i : ℕ) (d x : X) (rest : List X) → i < length xs → drop i xs ≡ x ∷ rest → get_or xs i d ≡ x
next_is {X} xs i d x rest l e = let q : ◌≡◌ {A = List X} (x ∷ rest) (get_or xs i d ∷ drop (i + 1) xs) = sym e ∙ drop_more xs i d l in cc

-- a row's samples are the segment's, where its records and vectors begin at its first cell
pub row_samples : (meaning : List ℤ → ℕ → ℕ → ℤ) (s : Segment) (rounding : ℕ) (picture : ℕ → ℕ → ℕ → ℕ) (records rest : List Macroblock) (vectors part : List Vector) (row first q u v : ℕ)
    → first ≡ (row - s.top) * (s.right - s.left) → rest ≡ drop first records → part ≡ drop first vectors
    → covers (row_in s row) q u v ≡ true
    → samples_by meaning s rounding picture rest part (column_at s) q u v ≡ samples_by meaning s rounding picture records vectors (cell_at s) q u v
unfolding samples_by cell_at
row_samples meaning s rounding picture records rest vectors part row first q u v f r p e =
    let m = macroblock_inside (row_in s row) q u v e in
    let y : v / side q ≡ row = omega (arith, m.2, m.3) in
    let k = u / side q - s.left in
    let a : get_or rest k Skipped ≡ get_or records (first + k) Skipped = ap (λ xs. get_or xs k Skipped) r ∙ get_or-drop first records k Skipped in
    let b : get_or part k zero_vector ≡ get_or vectors (first + k) zero_vector = ap (λ xs. get_or xs k zero_vector) p ∙ get_or-drop first vectors k zero_vector in
    rw (y, a, b, f) refl

-- one row more of cells
pub row_cells : (row top columns : ℕ) → top ≤ row → (row - top) * columns + columns ≡ (row + 1 - top) * columns
row_cells row top columns h = let e : row + 1 - top ≡ (row - top) + 1 = omega arith in rw e (omega (arith, add-mul (row - top) 1 columns))
