-- Format, transform and sizes are kept through a call.
use Rattle.std.proofs.Common.{◌≡◌, ℕ, false, List, [], ◌∷◌, ℤ, All, get_or, length, take, refl, ap, ◌∙◌, subst, arith}
use Rattle.std.proofs.lemmas.List.Elements.{All-cons, All-nil, All-same}
use Rattle.calls.specs.Held.{Held}
use Rattle.calls.specs.declared.answers.Answer.{Answer}
use Rattle.calls.specs.Laws.{granted}
use Rattle.calls.specs.Runs.{Calling, State, setting_of, step}
use Rattle.calls.proofs.Sizes.{same_setting}
use Rattle.replay.specs.declared.Stage.{Stage}
use Rattle.replay.specs.Stages.{NoneWrites, Replayed, control_of, format_of, setting_at, state_of, writes}
use Rattle.transform.specs.declared.kinds.TransformKind.{TransformKind}
use Rattle.reels_in_memory.specs.Memories.{Made}
use Rattle.transform.specs.Kinds.{meaning_of}

module _ (meaning : List ℤ → ℕ → ℕ → ℤ) (stage stage' : Stage) (held held' : Held) (c : Calling)
    (s : state_of stage' held' ≡ step (setting_at stage meaning held) (state_of stage held) c) (f : format_of stage' ≡ format_of stage) where
  pub setting_kept : setting_at stage' meaning held' ≡ setting_at stage meaning held
  setting_kept =
      let v = setting_at stage meaning held in
      ap (λ x. setting_of x meaning held') f
      ∙ ap (λ (x : State). setting_of (format_of stage) meaning x.contents.held) s
      ∙ same_setting v (control_of stage) (state_of stage held).contents c refl

-- the one answer of a list of one
one_answer : (answers : List Answer) (a d : Answer) → take 1 answers ≡ a ∷ [] → get_or answers 0 d ≡ a
one_answer [] a d e = absurd (let z : ◌≡◌ {A = ℕ} 0 1 = ap length e in omega arith)
one_answer (b ∷ more) a d e = ap (λ list. get_or list 0 d) e

one_of : (P : Answer → Type 0) (answers : List Answer) (a d : Answer) → take 1 answers ≡ a ∷ [] → P (get_or answers 0 d) → All P (take 1 answers)
one_of P answers a d e p = All-same P _ _ e (All-cons P a [] (subst P (one_answer answers a d e) p) (All-nil P))

-- what a list of one call gave
pub made : (kind : TransformKind) (stage stage' : Stage) (held held' : Held) (c : Calling) (answers : List Answer) (d : Answer)
    → Replayed (meaning_of kind) stage held (c ∷ []) stage' held' (take 1 answers) → format_of stage' ≡ format_of stage → Made kind stage held c stage' held' (get_or answers 0 d)
made kind stage stage' held held' c answers d r f =
    record {
      state = r.state;
      answer = one_answer answers _ d r.answered;
      setting = setting_kept (meaning_of kind) stage stage' held held' c r.state f;
      stays = λ none. r.stays (one_of (λ a. granted a ≡ false) answers _ d r.answered none);
    }

-- and nothing was written where its answer tells so
pub unwritten : (kind : TransformKind) (stage stage' : Stage) (held held' : Held) (c : Calling) (answers : List Answer) (d : Answer)
    → Replayed (meaning_of kind) stage held (c ∷ []) stage' held' (take 1 answers) → writes (get_or answers 0 d) ≡ false → NoneWrites (take 1 answers)
unwritten kind stage stage' held held' c answers d r none = one_of (λ a. writes a ≡ false) answers _ d r.answered none
