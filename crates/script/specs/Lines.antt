-- What the fields of a line say.
use Rattle.std.specs.Prelude.{◌≡◌, ℕ, cond, List, [], length, Some, None, Ok, Err, Result, vec_items, codes, Option, ◌==◌, ⊤}
use Rattle.std.specs.Str.{bytes_eq}
use Rattle.records.specs.declared.types.PictureKind.{PictureKind}
use Rattle.records.specs.declared.types.PictureKind.TheVariants as picture
use Rattle.script.specs.declared.line.LineError.{LineError}
use Rattle.script.specs.declared.line.LineError.TheVariants.{OutOfMemory, Wrong}
use Rattle.script.specs.declared.line.Mistake.{Mistake}
use Rattle.script.specs.declared.line.Mistake.TheVariants as mistake
use Rattle.script.specs.declared.line.Records.{Records}
use Rattle.script.specs.Fields.{after_field, field_of}
use Rattle.script.specs.Numbers.{number_in, pairs_of}

-- bytes to be read as records, by their meaning
pub record RecordsMeaning : Type 0 where
  pub kind : PictureKind
  pub macroblocks : ℕ
  pub bytes : List ℕ

abbrev pub records_meant : Records → RecordsMeaning
records_meant r = record { kind = r.kind; macroblocks = r.macroblocks; bytes = vec_items r.bytes }

-- unless memory failed, a reader gives what a line says, or what is wrong with it
abbrev pub Says : {X Y : Type 0} → (X → Y) → Result X LineError → Result Y Mistake → Type 0
Says view (Ok x) due = due ≡ Ok (view x)
Says view (Err (Wrong m)) due = due ≡ Err m
Says view (Err OutOfMemory) due = ⊤

abbrev pub kind_in : List ℕ → Option PictureKind
kind_in field = cond (bytes_eq field (codes "0")) (Some picture.Intra) (cond (bytes_eq field (codes "1")) (Some picture.Inter) None)

-- `-` stands for no bytes
abbrev pub bytes_of : List ℕ → Option (List ℕ)
bytes_of field = cond (length field == 0) None (cond (bytes_eq field (codes "-")) (Some []) (pairs_of field))

-- goes on with a value, or tells the mistake
abbrev pub given : {X Y : Type 0} → Option X → Mistake → (X → Result Y Mistake) → Result Y Mistake
given None m on = Err m
given (Some x) m on = on x

-- no field is left
abbrev pub end_of : List ℕ → Result (Unit {0}) Mistake
end_of fields = cond (length (field_of fields) == 0) (Ok tt) (Err mistake.Fields)

-- a value, where no field is left after it
abbrev pub ended : {X : Type 0} → List ℕ → X → Result X Mistake
ended rest x = cond (length (field_of rest) == 0) (Ok x) (Err mistake.Fields)

-- `records KIND MACROBLOCKS BYTES`, by what stands after the first word
abbrev pub records_line : List ℕ → Result RecordsMeaning Mistake
records_line fields =
    given (kind_in (field_of fields)) mistake.Kind (λ kind.
    given (number_in (field_of (after_field fields))) mistake.Macroblocks (λ macroblocks.
    given (bytes_of (field_of (after_field (after_field fields)))) mistake.Bytes (λ bytes.
    ended (after_field (after_field (after_field fields))) (record { kind = kind; macroblocks = macroblocks; bytes = bytes }))))

-- f of a value, where nothing is wrong
abbrev pub result_map : {X Y : Type 0} → (X → Y) → Result X Mistake → Result Y Mistake
result_map f (Ok x) = Ok (f x)
result_map f (Err m) = Err m
