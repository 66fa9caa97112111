-- The cells of a segment in a table of the whole picture.
use Rattle.std.proofs.Common.{◌≡◌, ℕ, ◌+◌, ◌-◌, ◌*◌, ◌/◌, ◌<◌, ◌≤◌, true, List, ◌++◌, length, get_or, take, drop, ℤ, Ok, sym, refl, ap, ◌∙◌, mul_comm, add-mul, arith}
use Rattle.std.proofs.lemmas.Nat.{mul-add-lt}
use Rattle.std.proofs.lemmas.List.{drop_at, get_or_append_left, length-take-le}
use Rattle.std.proofs.lemmas.Bool.Decides.{nat_tests}
use Rattle.records.specs.declared.types.Macroblock.{Macroblock}
use Rattle.records.specs.declared.types.PictureKind.{PictureKind}
use Rattle.records.specs.Deliveries.{read}
use Rattle.motion.specs.declared.vectors.Vector.{Vector}
use Rattle.motion.specs.Vectors.{zero_vector}
use Rattle.pictures.specs.declared.layouts.Segment.{Segment}
use Rattle.pictures.specs.Pictures.{covers, side}
use Rattle.deblocking.proofs.Edges.{between}
use Rattle.rebuild.specs.Rebuilt.{count_of, delivery_records, set_from}
use Rattle.rebuild.specs.Segments.{cell_at, samples_by}

-- the records of a delivery that is accepted are those that are read
pub delivery_records_are : (kind : PictureKind) (n : ℕ) (bytes : List ℕ) (records : List Macroblock) → read kind n bytes ≡ Ok records → delivery_records kind n bytes ≡ records
unfolding delivery_records
delivery_records_are kind n bytes records e = rw e

-- the rows above a segment, and its own
pub rows_join : (top bottom columns : ℕ) → top ≤ bottom → top * columns + (bottom - top) * columns ≡ bottom * columns
rows_join top bottom columns h = let e : bottom ≡ top + (bottom - top) = omega arith in sym (add-mul top (bottom - top) columns) ∙ ap (λ n. n * columns) (sym e)

-- the cells of a part, read from its first
pub set_cells_at : {X : Type 0} (first : ℕ) (cells table : List X) (d : X) (i : ℕ) → first ≤ length table → i < length cells → get_or (drop first (set_from first cells table)) i d ≡ get_or cells i d
set_cells_at first cells table d i h l =
    ap (λ xs. get_or xs i d) (drop_at (take first table) (cells ++ drop (length cells) (drop first table)) first (length-take-le first table h)) ∙ get_or_append_left cells (drop (length cells) (drop first table)) d i l

-- the macroblock of a place of a segment is one of the segment's
pub macroblock_inside : (s : Segment) (q u v : ℕ) → covers s q u v ≡ true → (s.left ≤ u / side q) × (u / side q < s.right) × (s.top ≤ v / side q) × (v / side q < s.bottom)
unfolding covers
macroblock_inside s q u v e =
    let x = between q s.left s.right u (grind (arith, nat_tests)) (grind (arith, nat_tests)) in
    let y = between q s.top s.bottom v (grind (arith, nat_tests)) (grind (arith, nat_tests)) in
    (x.0, x.1, y.0, y.1)

-- and so has one of its cells
pub cell_below : (s : Segment) (q u v : ℕ) → covers s q u v ≡ true → cell_at s q u v < count_of s
unfolding cell_at
cell_below s q u v e =
    let m = macroblock_inside s q u v e in
    let across : u / side q - s.left < s.right - s.left = omega (arith, m.0, m.1) in
    let down : v / side q - s.top < s.bottom - s.top = omega (arith, m.2, m.3) in
    omega (arith, mul-add-lt (v / side q - s.top) (s.right - s.left) (u / side q - s.left) (s.bottom - s.top) down across, mul_comm (s.bottom - s.top) (s.right - s.left))

-- samples by equal vectors
pub same_vectors : (meaning : List ℤ → ℕ → ℕ → ℤ) (s : Segment) (rounding : ℕ) (picture : ℕ → ℕ → ℕ → ℕ) (records : List Macroblock) (xs ys : List Vector) (q u v : ℕ)
    → get_or xs (cell_at s q u v) zero_vector ≡ get_or ys (cell_at s q u v) zero_vector
    → samples_by meaning s rounding picture records xs (cell_at s) q u v ≡ samples_by meaning s rounding picture records ys (cell_at s) q u v
unfolding samples_by
same_vectors meaning s rounding picture records xs ys q u v e = rw e refl
