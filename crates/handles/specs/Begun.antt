-- New reels.
use Rattle.std.specs.Prelude.{◌≡◌, ℕ, cond, Some, None, Ok, Err, Option, Result, ◌==◌}
use Rattle.pictures.specs.declared.formats.Format.{Format}
use Rattle.calls.specs.declared.answers.Answer.TheVariants.{Refused}
use Rattle.calls.specs.declared.faults.PictureFault.TheVariants as fault
use Rattle.calls.specs.Runs.{new}
use Rattle.replay.specs.Stages.{format_of}
use Rattle.call_lines.specs.declared.line.StoreKind.{StoreKind}
use Rattle.call_lines.specs.declared.line.StoreKind.TheVariants as store
use Rattle.transform.specs.declared.kinds.TransformKind.{TransformKind}
use Rattle.transform.specs.declared.kinds.TransformKind.TheVariants as transform
use Rattle.reels_in_memory.specs.declared.reel_in_memory.Choices.{Choices}
use Rattle.reels_in_memory.specs.Memories.{blank, held_by, store_in}
use Rattle.handles.specs.declared.answer.AnswerNumbers.{AnswerNumbers}
use Rattle.handles.specs.declared.handle.ReelHandle.{ReelHandle}
use Rattle.handles.specs.declared.raw_box.RawBox.{RawBox}
use Rattle.handles.specs.Handles.{state_behind}
use Rattle.handles.specs.Numbers.{numbers_of, outcome_accepted, outcome_no_memory, outcome_unknown_choice}

-- the store and the transform that a number names: 0 and 1 name one, and no other does
abbrev pub store_numbered : ℕ → Option StoreKind
store_numbered n = cond (n == 0) (Some store.Bytes) (cond (n == 1) (Some store.Tiles) None)

abbrev pub transform_numbered : ℕ → Option TransformKind
transform_numbered n = cond (n == 0) (Some transform.TwoPass) (cond (n == 1) (Some transform.Direct) None)

-- the choices of two numbers, where each names one
abbrev pub chosen : Option StoreKind → Option TransformKind → Option Choices
chosen (Some s) (Some t) = Some (record { store = s; transform = t })
chosen (Some s) None = None
chosen None t = None

abbrev pub choices_numbered : ℕ → ℕ → Option Choices
choices_numbered kind number = chosen (store_numbered kind) (transform_numbered number)

-- behind a handle is a new reel of a format, with the store and the transform that were chosen and a memory of zeros and absent marks
pub record Fresh (f : Format) (choices : Choices) (h : ReelHandle) : Type 0 where
  pub state : state_behind h ≡ new (held_by h.kept.reel.memory)
  pub format : format_of h.kept.reel.stage ≡ f
  pub store : store_in h.kept.reel.memory ≡ choices.store
  pub transform : h.kept.reel.transform ≡ choices.transform
  pub blank : held_by h.kept.reel.memory ≡ blank (format_of h.kept.reel.stage)

-- What handle there is then, and what is answered. A number that names no format is refused, whatever is chosen; of a format, a choice that is not known has an
-- outcome of its own; and where memory fails there is no handle.
abbrev pub Begun : Option Format → Option Choices → Option ReelHandle → AnswerNumbers → Type 0
Begun None choices None a = a ≡ numbers_of (Refused fault.Format)
Begun (Some format) None None a = a ≡ outcome_unknown_choice
Begun (Some format) (Some choices) None a = a ≡ outcome_no_memory
Begun (Some format) (Some choices) (Some h) a = Fresh format choices h × (a ≡ outcome_accepted 0 0)
Begun (Some format) None (Some h) a = ⊥
Begun None choices (Some h) a = ⊥

abbrev pub handle_in : {A : Type 0} → Result (RawBox ReelHandle A) AnswerNumbers → Option ReelHandle
handle_in (Ok l) = Some l.value
handle_in (Err n) = None

abbrev pub answer_in : {A : Type 0} → Result (RawBox ReelHandle A) AnswerNumbers → AnswerNumbers
answer_in (Ok l) = outcome_accepted 0 0
answer_in (Err n) = n
