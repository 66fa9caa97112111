-- The formats of a picture: sub-QCIF, QCIF and CIF.
use Rattle.std.specs.Prelude.{ℕ, cond, Some, None, Option, Result, List, ◌==◌, ◌++◌, codes, decimal}
use Rattle.std.specs.Option.{ok_or}
use Rattle.pictures.specs.declared.formats.Format.{Format}
use Rattle.pictures.specs.declared.formats.Format.TheVariants.{SubQcif, Qcif, Cif}
use Rattle.pictures.specs.declared.formats.UnknownFormat.{UnknownFormat}

-- the numbers 1, 2 and 3 name a format, and no other does
abbrev pub format_of_number : ℕ → Option Format
format_of_number n = cond (n == 1) (Some SubQcif) (cond (n == 2) (Some Qcif) (cond (n == 3) (Some Cif) None))

-- the format of a number, or the number as one that names none
abbrev pub named : ℕ → Result Format UnknownFormat
named n = ok_or (format_of_number n) (record { 0 = n })

-- what is printed of a number that names no format
abbrev pub unknown_text : UnknownFormat → List ℕ
unknown_text unknown = codes "no format has the number " ++ decimal unknown.0

abbrev pub number_of : Format → ℕ
number_of SubQcif = 1
number_of Qcif = 2
number_of Cif = 3

-- the macroblocks across
abbrev pub columns_of : Format → ℕ
columns_of SubQcif = 8
columns_of Qcif = 11
columns_of Cif = 22

-- the macroblocks down
abbrev pub rows_of : Format → ℕ
rows_of SubQcif = 6
rows_of Qcif = 9
rows_of Cif = 18
