-- An answer in numbers.
use Rattle.std.specs.Prelude.{ℕ}
use Rattle.records.specs.declared.faults.Layer.{Layer}
use Rattle.records.specs.declared.faults.Layer.TheVariants as layer
use Rattle.records.specs.declared.faults.Refusal.{Refusal}
use Rattle.calls.specs.declared.answers.Answer.{Answer}
use Rattle.calls.specs.declared.answers.Answer.TheVariants as answer
use Rattle.calls.specs.Faults.{picture_refusal}
use Rattle.handles.specs.declared.answer.AnswerNumbers.{AnswerNumbers}

abbrev pub layer_number : Layer → ℕ
layer_number layer.Picture = 0
layer_number layer.Words = 1
layer_number layer.Macroblock = 2
layer_number layer.Block = 3
layer_number layer.Segment = 4

-- the five outcomes: 0 accepted, 1 refused, 2 out of turn, 3 no memory, 4 unknown choice
abbrev pub outcome_accepted : ℕ → ℕ → AnswerNumbers
outcome_accepted first second =
    record { outcome = 0; number = 0; layer = 0; block = 0; word = 0; macroblock = 0; first = first; second = second }

abbrev pub outcome_refused : Refusal → AnswerNumbers
outcome_refused r =
    record {
      outcome = 1;
      number = r.number;
      layer = layer_number r.layer;
      block = r.block;
      word = r.word;
      macroblock = r.macroblock;
      first = 0;
      second = 0;
    }

abbrev pub outcome_out_of_turn : AnswerNumbers
outcome_out_of_turn = record { outcome = 2; number = 0; layer = 0; block = 0; word = 0; macroblock = 0; first = 0; second = 0 }

abbrev pub outcome_no_memory : AnswerNumbers
outcome_no_memory = record { outcome = 3; number = 0; layer = 0; block = 0; word = 0; macroblock = 0; first = 0; second = 0 }

abbrev pub outcome_unknown_choice : AnswerNumbers
outcome_unknown_choice = record { outcome = 4; number = 0; layer = 0; block = 0; word = 0; macroblock = 0; first = 0; second = 0 }

abbrev pub numbers_of : Answer → AnswerNumbers
numbers_of (answer.Opened segments) = outcome_accepted segments 0
numbers_of (answer.Delivered d) = outcome_accepted d.words d.intra
numbers_of (answer.Closed marks) = outcome_accepted marks 0
numbers_of (answer.Sample value) = outcome_accepted value 0
numbers_of (answer.Age age) = outcome_accepted age 0
numbers_of (answer.Refused f) = outcome_refused (picture_refusal f)
numbers_of answer.OutOfTurn = outcome_out_of_turn
