-- What numbers stand for.
use Rattle.std.specs.Prelude.{ℕ, cond, Some, None, Option, Result, ok_or, ◌==◌}
use Rattle.records.specs.declared.types.PictureKind.{PictureKind}
use Rattle.records.specs.declared.types.PictureKind.TheVariants as picture
use Rattle.records.specs.declared.types.UnknownNumber.{UnknownNumber}

-- the kind of picture that a number stands for
abbrev pub picture_kind_of : ℕ → Option PictureKind
picture_kind_of n = cond (n == 0) (Some picture.Intra) (cond (n == 1) (Some picture.Inter) None)

-- what a number stands for, or the number as one that stands for nothing
abbrev pub numbered : {X : Type 0} → (ℕ → Option X) → ℕ → Result X UnknownNumber
numbered meaning n = ok_or (meaning n) (record { number = n })
