-- A store has room for its size, and few places.
use Rattle.std.proofs.Common.{◌≡◌, ℕ, ◌*◌, ◌/◌, ◌<◌, ◌≤◌, true, ◌&&◌, eqb, Some, None, Option, ⊎_elim, ap, mul-le-mul, arith}
use Rattle.std.proofs.Math.Nat.{div-mul-le_self, mul-le-mul_right}
use Rattle.std.proofs.lemmas.Bool.{cases_lt, le-leb, lt-leb}
use Rattle.std.proofs.lemmas.Bool.Decides.{nat_tests}
use Rattle.pictures.specs.declared.formats.Format.{Format}
use Rattle.pictures.specs.Formats.{columns_of, rows_of}
use Rattle.stores.specs.Room.{size_in}

-- columns × rows macroblocks, for each of which there are so many cells
pub room_enough : (format : Option Format) (per cells columns rows : ℕ) → (columns, rows) ≡ size_in format (cells / per) → columns * rows * per ≤ cells
room_enough None per cells columns rows e =
    let c : columns ≡ 0 = ap (λ p. p.0) e in
    rw c (omega arith)
room_enough (Some format) per cells columns rows e =
    ⊎_elim
    (λ (h : cells / per < columns_of format * rows_of format).
    let none : ◌≡◌ {A = ℕ × ℕ} (columns, rows) (0, 0) = rw (lt-leb _ _ h) at e in
    let c : columns ≡ 0 = ap (λ p. p.0) none in
    rw c (omega arith))
    (λ (h : columns_of format * rows_of format ≤ cells / per).
    let all : ◌≡◌ {A = ℕ × ℕ} (columns, rows) (columns_of format, rows_of format) = rw (le-leb _ _ h) at e in
    let c : columns ≡ columns_of format = ap (λ p. p.0) all in
    let r : rows ≡ rows_of format = ap (λ p. p.1) all in
    let n : columns_of format * rows_of format * per ≤ cells / per * per = mul-le-mul_right per h in
    rw (c, r) (omega (arith, n, div-mul-le_self cells per)))
    (cases_lt (cells / per) (columns_of format * rows_of format))

-- sizes that are found equal are
pub same_size : (columns columns' rows rows' : ℕ) → (eqb columns columns' && eqb rows rows') ≡ true → (columns ≡ columns') × (rows ≡ rows')
same_size columns columns' rows rows' e = (grind (arith, nat_tests), grind (arith, nat_tests))

-- what is kept lies below a number that fits
pub small : (columns rows at : ℕ) → columns ≤ 22 → rows ≤ 18 → at < columns * rows * 384 → at < 396 * 384
small columns rows at w h l = omega (arith, l, mul-le-mul w h)
