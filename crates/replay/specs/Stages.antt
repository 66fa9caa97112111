-- A reel at rest or with a picture open, as runs have it.
use Rattle.std.specs.Prelude.{◌≡◌, ℕ, Bool, true, false, List, length, take, ℤ, Ok, Err, Result, All}
use denote.Ref.{Bor}
use Rattle.pictures.specs.declared.formats.Format.{Format}
use Rattle.calls.specs.Held.{Held}
use Rattle.calls.specs.Laws.{granted}
use Rattle.calls.specs.Runs.{Calling, Control, calls_of, control, open_to, replies, reply, resting, run, Setting, setting_of, State, step}
use Rattle.calls.specs.declared.answers.Answer.{Answer}
use Rattle.calls.specs.declared.answers.Call.{Call}
use Rattle.calls.specs.declared.answers.Answer.TheVariants.{Opened, Delivered, Closed, Sample, Age, Refused, OutOfTurn}
use Rattle.calls.specs.declared.faults.PictureFault.{PictureFault}
use Rattle.reel.specs.declared.reels.Reel.{Reel}
use Rattle.reel.specs.declared.reels.Slip.{Slip}
use Rattle.replay.specs.declared.Stage.{Stage}
use Rattle.replay.specs.declared.Stage.TheVariants.{Resting, Open}

-- the reel, at rest or while a picture is open
abbrev pub reel_of : Stage → Reel
reel_of (Resting reel) = reel
reel_of (Open slip) = slip.reel

abbrev pub format_of : Stage → Format
format_of stage = (reel_of stage).format

abbrev pub control_of : Stage → Control
control_of (Resting reel) = control reel.pictures reel.finished resting
control_of (Open slip) = control slip.reel.pictures slip.reel.finished (open_to slip.kind slip.rounding slip.layout)

-- the accepted segments; a resting reel has none
abbrev pub accepted_of : Stage → ℕ
accepted_of (Resting reel) = 0
accepted_of (Open slip) = slip.accepted

-- a slip that was handed in
abbrev pub spent_of : Stage → Bool
spent_of (Resting reel) = false
spent_of (Open slip) = slip.spent

abbrev pub state_of : Stage → Held → State
state_of stage held = record { state = control_of stage; contents = record { accepted = accepted_of stage; held = held } }

abbrev pub setting_at : Stage → (List ℤ → ℕ → ℕ → ℤ) → Held → Setting
setting_at stage meaning held = setting_of (format_of stage) meaning held

-- the state after a call, and its answer, by a transform of a meaning
abbrev pub state_after : (List ℤ → ℕ → ℕ → ℤ) → Stage → Held → Calling → State
state_after meaning stage held call = step (setting_at stage meaning held) (state_of stage held) call

abbrev pub reply_to : (List ℤ → ℕ → ℕ → ℤ) → Stage → Held → Calling → Answer
reply_to meaning stage held call = reply (setting_at stage meaning held) (state_of stage held) call

-- the calls of a list for whose answers there is room
abbrev pub with_room : List Answer → List (Call (Bor (List ℕ))) → List Calling
with_room room calls = calls_of (take (length room) calls)

-- what a call gives, as a stage and an answer
abbrev pub open_turn : Result (Slip × ℕ) (Reel × PictureFault) → Stage × Answer
open_turn (Ok p) = (Open p.0, Opened p.1)
open_turn (Err p) = (Resting p.0, Refused p.1)

abbrev pub close_turn : Result (Reel × ℕ) (Slip × PictureFault) → Stage × Answer
close_turn (Ok p) = (Resting p.0, Closed p.1)
close_turn (Err p) = (Open p.0, Refused p.1)

-- the answer to a call that leaves the stage as it is
abbrev pub answer_to : Result Answer PictureFault → Answer
answer_to (Ok answer) = answer
answer_to (Err f) = Refused f

-- only an accepted delivery and an accepted closing write to the memory
abbrev pub writes : Answer → Bool
writes (Opened segments) = false
writes (Delivered counts) = true
writes (Closed marks) = true
writes (Sample value) = false
writes (Age age) = false
writes (Refused f) = false
writes OutOfTurn = false

abbrev pub NoneWrites : List Answer → Type 0
NoneWrites answers = All (λ a. writes a ≡ false) answers

-- every call was refused or out of turn
abbrev pub NoneGranted : List Answer → Type 0
NoneGranted answers = All (λ a. granted a ≡ false) answers

-- What a list of calls gives, from a stage over a memory that held something, with a transform of a meaning: the stage and the memory are those after
-- the run, the answers are the run's, a slip that was not spent is not, and the very stage stays where no call is accepted.
pub record Replayed (meaning : List ℤ → ℕ → ℕ → ℤ) (stage : Stage) (held : Held) (calls : List Calling) (stage' : Stage) (held' : Held) (answers : List Answer) : Type 0 where
  pub state : state_of stage' held' ≡ run (setting_at stage meaning held) (state_of stage held) calls
  pub answered : answers ≡ replies (setting_at stage meaning held) (state_of stage held) calls
  pub unspent : spent_of stage ≡ false → spent_of stage' ≡ false
  pub stays : NoneGranted answers → stage' ≡ stage
