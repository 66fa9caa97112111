-- The text of an answer.
use Rattle.std.specs.Prelude.{◌≡◌, ℕ, List, [], ◌∷◌, ◌++◌, codes, decimal, IsSome, Option, String, string_bytes}
use Rattle.std.specs.List.{flat_map}
use Rattle.std.specs.Option.{option_map}
use Rattle.records.specs.Shown.{refusal_text}
use Rattle.calls.specs.declared.answers.Answer.{Answer}
use Rattle.calls.specs.declared.answers.Answer.TheVariants.{Opened, Delivered, Closed, Sample, Age, Refused, OutOfTurn}
use Rattle.calls.specs.Faults.{picture_refusal}
use Rattle.calls.specs.Runs.{Calling}
use Rattle.calls.specs.declared.answers.Call.TheVariants.{Age as asking_age, Sample as asking_sample, Close as closing, Deliver as delivering, Open as opening}
use Rattle.script.specs.declared.line.Mistake.{Mistake}
use Rattle.script.specs.declared.line.Mistake.TheVariants as mistake
use Rattle.transcripts.specs.declared.answers.Word.{Word}
use Rattle.transcripts.specs.declared.answers.Word.TheVariants as word

abbrev pub word_text : Word → List ℕ
word_text word.New = codes "new"
word_text word.Open = codes "open"
word_text word.Deliver = codes "deliver"
word_text word.Close = codes "close"
word_text word.Sample = codes "sample"
word_text word.Age = codes "age"
word_text word.Ages = codes "ages"
word_text word.Records = codes "records"

-- the word that the answer to a call begins with
abbrev pub word_for : Calling → Word
word_for (opening kind rounding layout) = word.Open
word_for (delivering segment bytes) = word.Deliver
word_for closing = word.Close
word_for (asking_sample plane across down) = word.Sample
word_for (asking_age column row) = word.Age

abbrev pub answer_text : Word → Answer → List ℕ
answer_text w (Opened segments) = word_text w ++ (codes " ok " ++ decimal segments)
answer_text w (Delivered d) = word_text w ++ (codes " ok " ++ (decimal d.words ++ (codes " " ++ decimal d.intra)))
answer_text w (Closed marks) = word_text w ++ (codes " ok " ++ decimal marks)
answer_text w (Sample value) = word_text w ++ (codes " ok " ++ decimal value)
answer_text w (Age age) = word_text w ++ (codes " ok " ++ decimal age)
answer_text w (Refused f) = word_text w ++ (codes " no " ++ refusal_text (picture_refusal f))
answer_text w OutOfTurn = word_text w ++ codes " out-of-turn"

-- what is wrong with a line
abbrev pub mistake_text : Mistake → List ℕ
mistake_text mistake.Call = codes "no such call"
mistake_text mistake.Store = codes "the store is bytes or tiles"
mistake_text mistake.Transform = codes "the transform is two-pass or direct"
mistake_text mistake.Number = codes "a decimal number below 4294967296 is due"
mistake_text mistake.Kind = codes "the kind is 0 (INTRA) or 1 (INTER)"
mistake_text mistake.Macroblocks = codes "the number of macroblocks is a decimal number below 4294967296"
mistake_text mistake.Bytes = codes "bytes are pairs of hexadecimal digits, or - for none"
mistake_text mistake.Fields = codes "too many fields"

-- a line that is no call, by its number
abbrev pub misread_text : ℕ → Mistake → List ℕ
misread_text line m = codes "error " ++ (decimal line ++ (codes ": " ++ mistake_text m))

-- ages, each after a space
abbrev pub later_ages : List ℕ → List ℕ
later_ages ages = flat_map (λ age. codes " " ++ decimal age) ages

-- a row of ages, with a space between two
abbrev pub ages_text : List ℕ → List ℕ
ages_text [] = []
ages_text (age ∷ ages) = decimal age ++ later_ages ages

-- the last line
abbrev pub done_text : ℕ → ℕ → List ℕ
done_text calls refused = codes "done " ++ (decimal calls ++ (codes " calls, " ++ (decimal refused ++ codes " refused")))

-- a text with a line more
abbrev pub line_after : List ℕ → List ℕ → List ℕ
line_after text line = text ++ (line ++ (10 ∷ []))

-- where there still is a text, it is the text before with a line more
abbrev pub Grown : {A : Type 0} → Option (String A) → Option (String A) → List ℕ → Type 0
Grown old new line = IsSome new → option_map string_bytes new ≡ option_map (λ s. line_after (string_bytes s) line) old
