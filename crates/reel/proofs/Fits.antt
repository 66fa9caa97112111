-- Sizes of pictures and their segments.
use Rattle.std.proofs.Common.{◌≡◌, ℕ, zero, suc, ◌-◌, ◌*◌, ◌<◌, ◌≤◌, Bool, true, false, cond, mul-le-mul_right, mul_comm, arith}
use Rattle.pictures.specs.declared.formats.Format.{Format}
use Rattle.pictures.specs.declared.formats.Format.TheVariants.{SubQcif, Qcif, Cif}
use Rattle.pictures.specs.Formats.{columns_of, rows_of}
use Rattle.pictures.specs.Segments.{has_bit, segment_count, segment_of_row}
use Rattle.calls.specs.Held.{cells_of}

-- the cells down to a row of the picture are the table's
pub room : (format : Format) (bottom n : ℕ) → bottom ≤ rows_of format → n ≡ cells_of format → bottom * (columns_of format - 0) ≤ n
room format bottom n h e =
    let m : bottom * columns_of format ≤ rows_of format * columns_of format = mul-le-mul_right (columns_of format) h in
    let z : columns_of format - 0 ≡ columns_of format = omega arith in
    rw z (omega (arith, mul_comm (columns_of format) (rows_of format)))

-- a picture has few segments
one_more : (b : Bool) (n row : ℕ) → n ≤ row → cond b (suc n) n ≤ suc row
one_more true n row h = omega arith
one_more false n row h = omega arith

number_below : (layout row : ℕ) → segment_of_row layout row ≤ row
unfolding segment_of_row
number_below layout zero = omega arith
number_below layout (suc row) = one_more (has_bit layout (suc row)) (segment_of_row layout row) row (number_below layout row)

few_rows : (format : Format) → rows_of format ≤ 18
few_rows SubQcif = omega arith
few_rows Qcif = omega arith
few_rows Cif = omega arith

pub few_segments : (format : Format) (layout k : ℕ) → k < segment_count format layout → k < 32
unfolding segment_count
few_segments format layout k h = omega (arith, number_below layout (rows_of format - 1), few_rows format)
