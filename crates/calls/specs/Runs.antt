-- A reel through a list of calls: what each call is answered, and what reel and memory then are.
use Rattle.std.specs.Prelude.{ℕ, ◌+◌, ◌^◌, Bool, ◌&&◌, List, [], ◌∷◌, ℤ, Some, None, Ok, Err, Option, Result, bit_or}
use Rattle.records.specs.declared.types.Macroblock.{Macroblock}
use Rattle.records.specs.declared.types.PictureKind.{PictureKind}
use Rattle.records.specs.Deliveries.{delivered_of}
use Rattle.samples.specs.declared.prediction.Rounding.{Rounding}
use Rattle.pictures.specs.declared.formats.Format.{Format}
use Rattle.pictures.specs.Segments.{segment_at, segment_count}
use Rattle.calls.specs.declared.answers.Answer.{Answer}
use Rattle.calls.specs.declared.answers.Answer.TheVariants.{Opened, Delivered, Closed, Sample, Age, Refused, OutOfTurn}
use Rattle.calls.specs.declared.answers.Call.{Call}
use Rattle.calls.specs.declared.answers.Call.TheVariants.{Open as opening, Deliver as delivering, Close as closing, Sample as asking_sample, Age as asking_age}
use denote.Ref.{Bor}
use Rattle.calls.specs.declared.faults.PictureFault.{PictureFault}
use Rattle.calls.specs.Held.{Held, fits_rest, fits_store, fits_table}
use Rattle.calls.specs.Questions.{judge_age, judge_closing, judge_delivery, judge_opening, judge_sample, kind_of, rounding_from}
use Rattle.calls.specs.Effects.{age_at, picture_closed, segment_rebuilt}

-- a call with the bytes that it is given
abbrev pub Calling : Type 0
Calling = Call (List ℕ)

-- the call with other bytes in the place of its own
abbrev pub with_bytes : {B C : Type 0} → (B → C) → Call B → Call C
with_bytes f (opening kind rounding layout) = opening kind rounding layout
with_bytes f (delivering segment bytes) = delivering segment (f bytes)
with_bytes f closing = closing
with_bytes f (asking_sample plane across down) = asking_sample plane across down
with_bytes f (asking_age column row) = asking_age column row

-- the call that is made where the bytes are lent
abbrev pub call_of : Call (Bor (List ℕ)) → Calling
call_of c = with_bytes (λ bytes. bytes.now) c

abbrev pub calls_of : List (Call (Bor (List ℕ))) → List Calling
calls_of [] = []
calls_of (c ∷ cs) = call_of c ∷ calls_of cs

-- What is the same throughout a run: the format, the meaning of the transform, and whether the memory has the reel's size: the finished store, the
-- finished ages, and the rest.
pub record Setting : Type 0 where
  pub format : Format
  pub meaning : List ℤ → ℕ → ℕ → ℤ
  pub store_fits : Bool
  pub ages_fit : Bool
  pub rest_fits : Bool

abbrev pub setting_of : Format → (List ℤ → ℕ → ℕ → ℤ) → Held → Setting
setting_of format meaning h =
    record {
      format = format;
      meaning = meaning;
      store_fits = fits_store format h.finished;
      ages_fit = fits_table format h.finished_ages;
      rest_fits = fits_rest format h;
    }

abbrev pub all_fit : Setting → Bool
all_fit w = w.store_fits && (w.ages_fit && w.rest_fits)

-- a reel rests, or has a picture open
pub data Stage : Type 0 where
  resting : Stage
  open_to : (kind : PictureKind) (rounding : Rounding) (layout : ℕ) → Stage

-- what reel and slip say beside the accepted segments: how many pictures were opened, the layout of the finished picture, if there is one, and the stage
pub data Control : Type 0 where
  control : (pictures : ℕ) (finished : Option ℕ) (stage : Stage) → Control

-- the accepted segments of the open picture, by their bits, and what the memory holds
pub record Contents : Type 0 where
  pub accepted : ℕ
  pub held : Held

abbrev pub answer_or_refusal : Result (Unit {0}) PictureFault → Answer → Answer
answer_or_refusal (Ok _) a = a
answer_or_refusal (Err f) a = Refused f

abbrev pub delivered : List ℕ → Result (List Macroblock) PictureFault → Answer
delivered bytes (Ok records) = Delivered (delivered_of bytes records)
delivered bytes (Err f) = Refused f

abbrev pub sample_answer : Setting → Option ℕ → Contents → ℕ → ℕ → ℕ → Answer
sample_answer w f M plane across down =
    answer_or_refusal (judge_sample w.store_fits w.format f plane across down) (Sample (M.held.finished.sample plane across down))

abbrev pub age_answer : Setting → Option ℕ → Contents → ℕ → ℕ → Answer
age_answer w f M column row =
    answer_or_refusal (judge_age w.ages_fit w.format f column row) (Age (age_at w.format M.held.finished_ages column row))

-- what a call is answered
abbrev pub answer : Setting → Control → Contents → Calling → Answer
answer w (control n f resting) M (opening kind rounding layout) =
    answer_or_refusal (judge_opening (all_fit w) w.format n f kind rounding layout) (Opened (segment_count w.format layout))
answer w (control n f resting) M (delivering segment bytes) = OutOfTurn
answer w (control n f resting) M closing = OutOfTurn
answer w (control n f resting) M (asking_sample plane across down) = sample_answer w f M plane across down
answer w (control n f resting) M (asking_age column row) = age_answer w f M column row
answer w (control n f (open_to k r l)) M (opening kind rounding layout) = OutOfTurn
answer w (control n f (open_to k r l)) M (delivering segment bytes) =
    delivered bytes (judge_delivery (all_fit w) w.format k l M.accepted segment bytes)
answer w (control n f (open_to k r l)) M closing = answer_or_refusal (judge_closing (all_fit w)) (Closed M.accepted)
answer w (control n f (open_to k r l)) M (asking_sample plane across down) = sample_answer w f M plane across down
answer w (control n f (open_to k r l)) M (asking_age column row) = age_answer w f M column row

abbrev pub if_accepted : {X : Type 0} → Result (Unit {0}) PictureFault → X → X → X
if_accepted (Ok _) there here = there
if_accepted (Err f) there here = here

-- the control after a call: it does not depend on what the memory holds
abbrev pub onward : Setting → Control → Calling → Control
onward w (control n f resting) (opening kind rounding layout) =
    if_accepted (judge_opening (all_fit w) w.format n f kind rounding layout)
    (control (n + 1) f (open_to (kind_of kind) (rounding_from rounding) layout)) (control n f resting)
onward w (control n f resting) (delivering segment bytes) = control n f resting
onward w (control n f resting) closing = control n f resting
onward w (control n f resting) (asking_sample plane across down) = control n f resting
onward w (control n f resting) (asking_age column row) = control n f resting
onward w (control n f (open_to k r l)) (opening kind rounding layout) = control n f (open_to k r l)
onward w (control n f (open_to k r l)) (delivering segment bytes) = control n f (open_to k r l)
onward w (control n f (open_to k r l)) closing =
    if_accepted (judge_closing (all_fit w)) (control n (Some l) resting) (control n f (open_to k r l))
onward w (control n f (open_to k r l)) (asking_sample plane across down) = control n f (open_to k r l)
onward w (control n f (open_to k r l)) (asking_age column row) = control n f (open_to k r l)

-- no segment is accepted yet, or any more
abbrev pub unmarked : Held → Contents
unmarked h = record { accepted = 0; held = h }

-- what an accepted delivery makes of the contents
abbrev pub taken : Setting → Rounding → ℕ → ℕ → List Macroblock → Contents → Contents
taken w rounding layout segment records M =
    record {
      accepted = bit_or M.accepted (2 ^ segment);
      held = segment_rebuilt w.meaning (segment_at w.format layout segment) rounding records M.held;
    }

abbrev pub when_read : Setting → Rounding → ℕ → ℕ → Result (List Macroblock) PictureFault → Contents → Contents
when_read w rounding layout segment (Ok records) M = taken w rounding layout segment records M
when_read w rounding layout segment (Err f) M = M

-- what closing makes of them
abbrev pub finish : Format → PictureKind → ℕ → Contents → Contents
finish format kind layout M = unmarked (picture_closed format kind layout M.accepted M.held)

-- the contents after a call
abbrev pub after : Setting → Control → Contents → Calling → Contents
after w (control n f resting) M (opening kind rounding layout) =
    if_accepted (judge_opening (all_fit w) w.format n f kind rounding layout) (unmarked M.held) M
after w (control n f resting) M (delivering segment bytes) = M
after w (control n f resting) M closing = M
after w (control n f resting) M (asking_sample plane across down) = M
after w (control n f resting) M (asking_age column row) = M
after w (control n f (open_to k r l)) M (opening kind rounding layout) = M
after w (control n f (open_to k r l)) M (delivering segment bytes) =
    when_read w r l segment (judge_delivery (all_fit w) w.format k l M.accepted segment bytes) M
after w (control n f (open_to k r l)) M closing = if_accepted (judge_closing (all_fit w)) (finish w.format k l M) M
after w (control n f (open_to k r l)) M (asking_sample plane across down) = M
after w (control n f (open_to k r l)) M (asking_age column row) = M

-- a reel with the memory that its caller keeps for it
pub record State : Type 0 where
  pub state : Control
  pub contents : Contents

-- a new reel, over memory that holds anything
abbrev pub new : Held → State
new h = record { state = control 0 None resting; contents = unmarked h }

abbrev pub reply : Setting → State → Calling → Answer
reply w R c = answer w R.state R.contents c

abbrev pub step : Setting → State → Calling → State
step w R c = record { state = onward w R.state c; contents = after w R.state R.contents c }

abbrev pub run : Setting → State → List Calling → State
run w R [] = R
run w R (c ∷ cs) = run w (step w R c) cs

abbrev pub replies : Setting → State → List Calling → List Answer
replies w R [] = []
replies w R (c ∷ cs) = reply w R c ∷ replies w (step w R c) cs

-- the layout of the finished picture, if there is one
abbrev pub finished_of : Control → Option ℕ
finished_of (control n f s) = f

abbrev pub shows : State → Option ℕ
shows R = finished_of R.state
