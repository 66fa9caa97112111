-- What a call on a stage gives is what a step of a run says.
use Rattle.std.proofs.Common.{◌≡◌, ℕ, false, List, ℤ, Ok, Err, Result, IfErr, sym, refl, ap, ◌∙◌, subst, true≢false}
use Rattle.records.specs.declared.types.Delivered.{Delivered}
use Rattle.records.specs.declared.types.Macroblock.{Macroblock}
use Rattle.records.specs.Deliveries.{delivered_of}
use Rattle.calls.specs.declared.answers.Answer.{Answer}
use Rattle.calls.specs.declared.answers.Answer.TheVariants as answer
use Rattle.calls.specs.declared.faults.PictureFault.{PictureFault}
use Rattle.calls.specs.Held.{Held}
use Rattle.calls.specs.Laws.{granted}
use Rattle.calls.specs.Runs.{Calling}
use Rattle.calls.specs.declared.answers.Call.TheVariants.{Deliver as delivering}
use Rattle.reel.specs.declared.reels.Slip.{Slip}
use Rattle.replay.specs.declared.Stage.{Stage}
use Rattle.replay.specs.declared.Stage.TheVariants.{Open}
use Rattle.reel.specs.Calls.{delivery_answered, held_after, judged, slip_after}
use Rattle.replay.specs.Stages.{format_of, reply_to, spent_of, state_after, state_of, writes}

pub record Turn (meaning : List ℤ → ℕ → ℕ → ℤ) (stage : Stage) (held : Held) (c : Calling) (stage' : Stage) (held' : Held) (a : Answer) : Type 0 where
  pub state : state_of stage' held' ≡ state_after meaning stage held c
  pub answer : a ≡ reply_to meaning stage held c
  pub format : format_of stage' ≡ format_of stage
  pub unspent : spent_of stage ≡ false → spent_of stage' ≡ false
  pub stays : granted a ≡ false → stage' ≡ stage

-- a turn by the stage and the call that were taken apart
pub turn_from : (meaning : List ℤ → ℕ → ℕ → ℤ) (stage stage₀ : Stage) (held : Held) (c c₀ : Calling) (stage' : Stage) (held' : Held) (a : Answer)
    → stage ≡ stage₀ → c ≡ c₀ → Turn meaning stage₀ held c₀ stage' held' a → Turn meaning stage held c stage' held' a
turn_from meaning stage stage₀ held c c₀ stage' held' a e f t =
    subst (λ s. Turn meaning s held c stage' held' a) (sym e) (subst (λ d. Turn meaning stage₀ held d stage' held' a) (sym f) t)

-- what a call was granted is told by its answer, or else its refusal
abbrev pub answer_by : {X : Type 0} → (X → Answer) → Result X PictureFault → Answer
answer_by say (Ok x) = say x
answer_by say (Err f) = answer.Refused f

-- what holds where a delivery is refused holds where nothing was written
pub unwritten : (given : Result Delivered PictureFault) (a : Answer) (P : Type 0) → a ≡ answer_by answer.Delivered given → IfErr given (λ _. P) → writes a ≡ false → P
unwritten (Ok counts) a P e h none = absurd (true≢false (sym (ap writes e) ∙ none))
unwritten (Err f) a P e h none = h

module _ (meaning : List ℤ → ℕ → ℕ → ℤ) (held : Held) where
  pub turn_deliver : (slip slip' : Slip) (segment : ℕ) (bytes : List ℕ) (held' : Held) (given : Result Delivered PictureFault) (a : Answer) (v : Result (List Macroblock) PictureFault)
      → judged slip held segment bytes ≡ v → slip' ≡ slip_after slip segment v → given ≡ delivery_answered bytes v → a ≡ answer_by answer.Delivered given → held' ≡ held_after meaning slip segment v held
      → Turn meaning (Open slip) held (delivering segment bytes) (Open slip') held' a
  turn_deliver slip slip' segment bytes held' given a (Ok records) j s d e h =
      record {
        state = rw (s, h, j) refl;
        answer = rw (e, d, j) refl;
        format = rw s refl;
        unspent = λ o. rw s o;
        stays = λ none. let counts : a ≡ answer.Delivered (delivered_of bytes records) = e ∙ ap (answer_by answer.Delivered) d in absurd (true≢false (sym (ap granted counts) ∙ none));
      }
  turn_deliver slip slip' segment bytes held' given a (Err f) j s d e h =
      record { state = rw (s, h, j) refl; answer = rw (e, d, j) refl; format = rw s refl; unspent = λ o. rw s o; stays = λ none. ap Open s }
