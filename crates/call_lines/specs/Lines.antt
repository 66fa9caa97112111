-- What a line of a script says.
use Rattle.std.specs.Prelude.{ℕ, zero, suc, cond, List, [], ◌∷◌, ◌++◌, length, get_or, Some, None, Ok, Err, Result, vec_items, codes, Option, ◌==◌}
use Rattle.std.specs.Str.{bytes_eq}
use Rattle.std.specs.Option.{option_map}
use Rattle.calls.specs.declared.answers.Call.TheVariants.{Age as asking_age, Close as closing, Deliver as delivering, Open as opening, Sample as asking_sample}
use Rattle.calls.specs.Runs.{Calling, with_bytes}
use Rattle.call_lines.specs.declared.line.Line.{Line}
use Rattle.call_lines.specs.declared.line.Line.TheVariants as line
use Rattle.script.specs.declared.line.Mistake.{Mistake}
use Rattle.script.specs.declared.line.Mistake.TheVariants as mistake
use Rattle.call_lines.specs.declared.line.StoreKind.{StoreKind}
use Rattle.call_lines.specs.declared.line.StoreKind.TheVariants as stored
use Rattle.transform.specs.declared.kinds.TransformKind.{TransformKind}
use Rattle.transform.specs.declared.kinds.TransformKind.TheVariants as transformed
use Rattle.script.specs.Fields.{after_field, field_of, is_hash, up_to}
use Rattle.script.specs.Numbers.{number_in}
use Rattle.script.specs.Lines.{bytes_of, ended, given, records_line, result_map}
use Rattle.script.specs.Lines as script_lines

-- a line by its meaning
pub data Meaning : Type 0 where
  store : StoreKind → Meaning
  transform : TransformKind → Meaning
  new : (format : ℕ) → Meaning
  call : Calling → Meaning
  ages : Meaning
  records : script_lines.RecordsMeaning → Meaning

abbrev pub meant : Line → Meaning
meant (line.Store kind) = store kind
meant (line.Transform kind) = transform kind
meant (line.New format) = new format
meant (line.Call c) = call (with_bytes (λ bytes. vec_items bytes) c)
meant line.Ages = ages
meant (line.Records r) = records (script_lines.records_meant r)

-- a line as it is kept, by its meaning
abbrev pub line_meant : Result (Option Line) Mistake → Result (Option Meaning) Mistake
line_meant said = result_map (option_map meant) said

-- the first of two texts stands for one value, the second for another
abbrev pub one_of : {X : Type 0} → List ℕ → X → List ℕ → X → List ℕ → Option X
one_of first x second y field = cond (bytes_eq field first) (Some x) (cond (bytes_eq field second) (Some y) None)

abbrev pub store_kind_in : List ℕ → Option StoreKind
store_kind_in = one_of (codes "bytes") stored.Bytes (codes "tiles") stored.Tiles

abbrev pub transform_kind_in : List ℕ → Option TransformKind
transform_kind_in = one_of (codes "two-pass") transformed.TwoPass (codes "direct") transformed.Direct

-- goes on with the number in the first field
abbrev pub with_number : {X : Type 0} → List ℕ → (ℕ → Result X Mistake) → Result X Mistake
with_number fields on = given (number_in (field_of fields)) mistake.Number on

-- numbers after those seen, one in each field, and no field after them
abbrev pub numbers_after : List ℕ → ℕ → List ℕ → Result (List ℕ) Mistake
numbers_after seen zero fields = ended fields seen
numbers_after seen (suc n) fields = with_number fields (λ number. numbers_after (seen ++ (number ∷ [])) n (after_field fields))

-- so many numbers
abbrev pub numbers_in : ℕ → List ℕ → Result (List ℕ) Mistake
numbers_in n fields = numbers_after [] n fields

-- each by what stands after its first word
abbrev pub store_line_of : List ℕ → Result Meaning Mistake
store_line_of fields = given (store_kind_in (field_of fields)) mistake.Store (λ kind. ended (after_field fields) (store kind))

abbrev pub transform_line_of : List ℕ → Result Meaning Mistake
transform_line_of fields = given (transform_kind_in (field_of fields)) mistake.Transform (λ kind. ended (after_field fields) (transform kind))

abbrev pub new_line_of : List ℕ → Result Meaning Mistake
new_line_of fields = result_map (λ n. new (get_or n 0 0)) (numbers_in 1 fields)

abbrev pub open_line_of : List ℕ → Result Meaning Mistake
open_line_of fields = result_map (λ n. call (opening (get_or n 0 0) (get_or n 1 0) (get_or n 2 0))) (numbers_in 3 fields)

abbrev pub sample_line_of : List ℕ → Result Meaning Mistake
sample_line_of fields = result_map (λ n. call (asking_sample (get_or n 0 0) (get_or n 1 0) (get_or n 2 0))) (numbers_in 3 fields)

abbrev pub age_line_of : List ℕ → Result Meaning Mistake
age_line_of fields = result_map (λ n. call (asking_age (get_or n 0 0) (get_or n 1 0))) (numbers_in 2 fields)

abbrev pub deliver_line_of : List ℕ → Result Meaning Mistake
deliver_line_of fields =
    with_number fields (λ segment.
    given (bytes_of (field_of (after_field fields))) mistake.Bytes (λ bytes.
    ended (after_field (after_field fields)) (call (delivering segment bytes))))

abbrev pub records_line_of : List ℕ → Result Meaning Mistake
records_line_of fields = result_map records (records_line fields)

-- a line that carries no bytes, by its first word
abbrev pub plain_line_of : List ℕ → List ℕ → Result Meaning Mistake
plain_line_of word fields =
    cond (bytes_eq word (codes "store")) (store_line_of fields)
    (cond (bytes_eq word (codes "transform")) (transform_line_of fields)
    (cond (bytes_eq word (codes "new")) (new_line_of fields)
    (cond (bytes_eq word (codes "open")) (open_line_of fields)
    (cond (bytes_eq word (codes "close")) (ended fields (call closing))
    (cond (bytes_eq word (codes "sample")) (sample_line_of fields)
    (cond (bytes_eq word (codes "age")) (age_line_of fields)
    (cond (bytes_eq word (codes "ages")) (ended fields ages)
    (Err mistake.Call))))))))

-- any line, by its first word
abbrev pub worded : List ℕ → List ℕ → Result Meaning Mistake
worded word fields =
    cond (bytes_eq word (codes "deliver")) (deliver_line_of fields)
    (cond (bytes_eq word (codes "records")) (records_line_of fields)
    (plain_line_of word fields))

-- a line, up to a comment; a blank one says nothing
abbrev pub line_of : List ℕ → Result (Option Meaning) Mistake
line_of bytes =
    cond (length (field_of (up_to is_hash bytes)) == 0) (Ok None)
    (result_map Some (worded (field_of (up_to is_hash bytes)) (after_field (up_to is_hash bytes))))
