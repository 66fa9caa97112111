-- Whatever is put in place of one number's deliveries, the other numbers are untouched.
use Rattle.std.proofs.Common.{◌≡◌, ℕ, ◌+◌, true, ◌≢◌, ◌⊎◌, List, length, ℤ, Some, None, Ok, Err, Option, Result, sym, refl, ap, ◌∙◌, subst, inl, inr}
use Rattle.std.proofs.lemmas.Bool.{cases_eq, cond-false, false≢true, ne_eqb}
use Rattle.records.specs.declared.types.Macroblock.{Macroblock}
use Rattle.records.specs.declared.types.PictureKind.{PictureKind}
use Rattle.samples.specs.declared.prediction.Rounding.{Rounding}
use Rattle.pictures.specs.declared.formats.Format.{Format}
use Rattle.pictures.specs.Segments.{segment_at, segment_of_row}
use Rattle.rebuild.specs.Rebuilt.{count_of}
use Rattle.calls.specs.declared.answers.Answer.{Answer}
use Rattle.calls.specs.declared.answers.Answer.TheVariants.{Closed, Sample, Age}
use Rattle.calls.specs.declared.faults.PictureFault.{PictureFault}
use Rattle.calls.specs.declared.faults.PictureFault.TheVariants as fault
use Rattle.calls.specs.Held.{Held}
use Rattle.calls.specs.Questions.{is_finished, judge_age, judge_closing, judge_opening, judge_sample, kind_of, rounding_from}
use Rattle.calls.specs.Effects.{age_at}
use Rattle.calls.specs.Laws.{Elsewhere, OthersUntouched, Own, Rewritten, SameElsewhere, SameToOthers, added, alike, kept, marks, omitted, over, own_age, own_delivery, own_sample, macroblock_row}
use Rattle.calls.specs.Runs.{Calling, Contents, Control, Setting, Stage, after, all_fit, answer, control, delivered, finish, finished_of, if_accepted, new, onward, open_to, resting, setting_of, answer_or_refusal, unmarked, when_read}
use Rattle.calls.specs.declared.answers.Call.TheVariants.{Open as opening, Deliver as delivering, Close as closing, Sample as asking_sample, Age as asking_age}
use Rattle.calls.proofs.Alike.{Based, FinishedAlike, In, WorkingAlike, all_read, both_deliver, judged, both_finish, keeps_finished, none_accepted, source}
use Rattle.calls.proofs.Bits.{other_bit}
use Rattle.calls.proofs.Pointwise.{kept_sample, made_age}
use Rattle.calls.proofs.Sizes.{Agrees, same_setting, sized}
use Rattle.calls.proofs.Verdicts.{Taken, age_passed, closing_passed, delivery_passed, judged_same, opening_passed, sample_passed}

-- every number but k
abbrev But : ℕ → ℕ → Type 0
But k j = j ≢ k

abbrev StageAlike : ℕ → Format → Option ℕ → Stage → Contents → Contents → Type 0
StageAlike k format f resting M N = Unit {0}
StageAlike k format f (open_to kind rounding layout) M N = WorkingAlike (But k) format layout M N × Based kind f layout

abbrev Alike : ℕ → Format → Control → Contents → Contents → Type 0
Alike k format (control n f s) M N = FinishedAlike (But k) format f M N × StageAlike k format f s M N

-- agreement goes both ways
module _ (P : ℕ → Type 0) (format : Format) where
  finished_back : (f : Option ℕ) (M N : Contents) → FinishedAlike P format f M N → FinishedAlike P format f N M
  finished_back f M N h = record { samples = λ p x y i s. sym (h.samples p x y i s); ages = λ c r i s. sym (h.ages c r i s) }

  working_back : (l : ℕ) (M N : Contents) → WorkingAlike P format l M N → WorkingAlike P format l N M
  working_back l M N h =
      record {
        accepted = λ j s. sym (h.accepted j s);
        samples = λ p x y i s t. sym (h.samples p x y i s (h.accepted (segment_of_row l (macroblock_row p y)) s ∙ t));
        ages = λ c r i s t. sym (h.ages c r i s (h.accepted (segment_of_row l r) s ∙ t));
      }

alike_back : (k : ℕ) (format : Format) (C : Control) (M N : Contents) → Alike k format C M N → Alike k format C N M
alike_back k format (control n f resting) M N h = (finished_back (But k) format f M N h.0, tt)
alike_back k format (control n f (open_to kind rd l)) M N h =
    (finished_back (But k) format f M N h.0, (working_back (But k) format l M N h.1.0, h.1.1))

module _ (w : Setting) (k : ℕ) where
  abbrev format : Format
  format = w.format

  -- a delivery of number k on one side alone
  one_side : (kind : PictureKind) (rd : Rounding) (l : ℕ) (bytes : List ℕ) (M N : Contents) → Agrees w M → WorkingAlike (But k) format l M N
      → (v : Result (List Macroblock) PictureFault) → judged w kind l M k bytes ≡ v → WorkingAlike (But k) format l (when_read w rd l k v M) N
  one_side kind rd l bytes M N b a (Err x) e = a
  one_side kind rd l bytes M N b a (Ok ms) e =
      record {
        accepted = λ j s. other_bit M.accepted k j s ∙ a.accepted j s;
        samples = λ p x y i s u.
            kept_sample format w.meaning l k rd ms there M.held p x y i (ne_eqb _ k s)
            ∙ a.samples p x y i s (sym (other_bit M.accepted k _ s) ∙ u);
        ages = λ c r i s u.
            made_age format w.meaning l k rd ms there M.held (sized w M b t.fits) c r i
            ∙ cond-false _ _ _ (ne_eqb _ k s)
            ∙ a.ages c r i s (sym (other_bit M.accepted k _ s) ∙ u);
      }
    where
      t : Taken (all_fit w) format kind l k bytes ms
      t = delivery_passed (all_fit w) format kind l M.accepted k bytes ms e

      there : length ms ≡ count_of (segment_at format l k)
      there = all_read _ format kind l k bytes ms t

  -- the other side is as if it had refused
  one_sided : (C : Control) (M N : Contents) (bytes : List ℕ) → Agrees w M → Alike k format C M N
      → Alike k format (onward w C (delivering k bytes)) (after w C M (delivering k bytes)) N
  one_sided (control n f resting) M N bytes b h = h
  one_sided (control n f (open_to kind rd l)) M N bytes b h = (
    keeps_finished (But k) w f rd l k M N (judged w kind l M k bytes) (Err fault.Size) h.0,
    (one_side kind rd l bytes M N b h.1.0 (judged w kind l M k bytes) refl, h.1.1),
  )

  other_sided : (C : Control) (M N : Contents) (bytes : List ℕ) → Agrees w N → Alike k format C M N
      → Alike k format (onward w C (delivering k bytes)) M (after w C N (delivering k bytes))
  other_sided C M N bytes b h =
      alike_back k format (onward w C (delivering k bytes)) (after w C N (delivering k bytes)) M (one_sided C N M bytes b (alike_back k format C M N h))

  -- both answers to a call, and both memories after it
  Kept : Control → Contents → Contents → Calling → Type 0
  Kept C M N c =
      SameToOthers k (finished_of C) c (answer w C M c) (answer w C N c) × Alike k format (onward w C c) (after w C M c) (after w C N c)

  both_own : (C : Control) (M N : Contents) (bytes : List ℕ) → Agrees w M → Agrees w N → Alike k format C M N
      → Alike k format (onward w C (delivering k bytes)) (after w C M (delivering k bytes)) (after w C N (delivering k bytes))
  both_own (control n f resting) M N bytes a b h = h
  both_own (control n f (open_to kind rd l)) M N bytes a b h =
      let C = control n f (open_to kind rd l) in other_sided C (after w C M (delivering k bytes)) N bytes b (one_sided C M N bytes a h)

  same_alike : {c : Calling} {a b : Answer} (f : Option ℕ) → a ≡ b → SameToOthers k f c a b
  same_alike {c} {a} {b} f e = subst (λ x. SameToOthers k f c a x) e alike

  deliver_any : (n : ℕ) (f : Option ℕ) (kind : PictureKind) (rd : Rounding) (l : ℕ) (M N : Contents) (segment : ℕ) (bytes : List ℕ) → Agrees w M → Agrees w N
      → Alike k format (control n f (open_to kind rd l)) M N → (segment ≡ k) ⊎ (segment ≢ k) → Kept (control n f (open_to kind rd l)) M N (delivering segment bytes)
  unfolding Kept
  deliver_any n f kind rd l M N segment bytes a b h (inl e) =
      let C = control n f (open_to kind rd l) in
      subst (λ s. SameToOthers k f (delivering s bytes) (answer w C M (delivering s bytes)) (answer w C N (delivering s bytes))
      × Alike k format C (after w C M (delivering s bytes)) (after w C N (delivering s bytes)))
      (sym e)
      (own_delivery, both_own C M N bytes a b h)
  deliver_any n f kind rd l M N segment bytes a b h (inr o) = (
    same_alike f (ap (delivered bytes) (judged_same (all_fit w) format kind l M.accepted N.accepted segment bytes (h.1.0.accepted segment o))),
    (
      keeps_finished (But k) w f rd l segment M N (judged w kind l M segment bytes) (judged w kind l N segment bytes) h.0,
      (both_deliver (But k) w kind rd f l segment bytes M N a b o (source (But k) format kind f l M N h.0 h.1.1) h.1.0, h.1.1),
    ),
  )

  alike_opening : (n : ℕ) (f : Option ℕ) (M N : Contents) (kind rd l : ℕ) → FinishedAlike (But k) format f M N
      → (v : Result (Unit {0}) PictureFault) → judge_opening (all_fit w) format n f kind rd l ≡ v
      → Alike k format (if_accepted v (control (n + 1) f (open_to (kind_of kind) (rounding_from rd) l)) (control n f resting))
      (if_accepted v (unmarked M.held) M) (if_accepted v (unmarked N.held) N)
  alike_opening n f M N kind rd l h (Ok u) e = (
    record { samples = h.samples; ages = h.ages },
    (none_accepted (But k) w l M N, (opening_passed (all_fit w) format n f kind rd l u e).1),
  )
  alike_opening n f M N kind rd l h (Err x) e = (h, tt)

  alike_closing : (n : ℕ) (f : Option ℕ) (kind : PictureKind) (rd : Rounding) (l : ℕ) (M N : Contents) → Agrees w M → Agrees w N
      → FinishedAlike (But k) format f M N → WorkingAlike (But k) format l M N → Based kind f l
      → (v : Result (Unit {0}) PictureFault) → judge_closing (all_fit w) ≡ v
      → SameToOthers k f closing (answer_or_refusal v (Closed M.accepted)) (answer_or_refusal v (Closed N.accepted))
      × Alike k format (if_accepted v (control n (Some l) resting) (control n f (open_to kind rd l)))
      (if_accepted v (finish format kind l M) M) (if_accepted v (finish format kind l N) N)
  alike_closing n f kind rd l M N a b h al s (Ok u) e = (
    marks al.accepted,
    (both_finish (But k) w kind f l M N a b (closing_passed (all_fit w) u e) (source (But k) format kind f l M N h s) al, tt),
  )
  alike_closing n f kind rd l M N a b h al s (Err x) e = (alike, (h, (al, s)))

  -- questions
  own_or_else : (f : Option ℕ) (row : ℕ) → is_finished f ≡ true → Own k f row ⊎ In (But k) f row
  own_or_else None row e = absurd (false≢true e)
  own_or_else (Some l) row e = cases_eq (segment_of_row l row) k

  alike_sample : (f : Option ℕ) (M N : Contents) → FinishedAlike (But k) format f M N → (p x y : ℕ)
      → (v : Result (Unit {0}) PictureFault) → judge_sample w.store_fits format f p x y ≡ v
      → SameToOthers k f (asking_sample p x y) (answer_or_refusal v (Sample (M.held.finished.sample p x y))) (answer_or_refusal v (Sample (N.held.finished.sample p x y)))
  alike_sample f M N h p x y (Err x') e = alike
  alike_sample f M N h p x y (Ok u) e = go (own_or_else f (macroblock_row p y) (sample_passed _ format f p x y u e).0)
    where
      go : Own k f (macroblock_row p y) ⊎ In (But k) f (macroblock_row p y)
          → SameToOthers k f (asking_sample p x y) (Sample (M.held.finished.sample p x y)) (Sample (N.held.finished.sample p x y))
      go (inl o) = own_sample o
      go (inr s) = same_alike f (ap Sample (h.samples p x y (sample_passed _ format f p x y u e).1 s))

  alike_age : (f : Option ℕ) (M N : Contents) → FinishedAlike (But k) format f M N → (c r : ℕ)
      → (v : Result (Unit {0}) PictureFault) → judge_age w.ages_fit format f c r ≡ v
      → SameToOthers k f (asking_age c r) (answer_or_refusal v (Age (age_at format M.held.finished_ages c r))) (answer_or_refusal v (Age (age_at format N.held.finished_ages c r)))
  alike_age f M N h c r (Err x) e = alike
  alike_age f M N h c r (Ok u) e = go (own_or_else f r (age_passed _ format f c r u e).0)
    where
      go : Own k f r ⊎ In (But k) f r
          → SameToOthers k f (asking_age c r) (Age (age_at format M.held.finished_ages c r)) (Age (age_at format N.held.finished_ages c r))
      go (inl o) = own_age o
      go (inr s) = same_alike f (ap Age (h.ages c r (age_passed _ format f c r u e).1 s))

  kept_step : (C : Control) (M N : Contents) (c : Calling) → Agrees w M → Agrees w N → Alike k format C M N → Kept C M N c
  unfolding Kept
  kept_step (control n f resting) M N (opening kind rd l) a b h =
      (alike, alike_opening n f M N kind rd l h.0 (judge_opening (all_fit w) format n f kind rd l) refl)
  kept_step (control n f resting) M N (delivering segment bytes) a b h = (alike, h)
  kept_step (control n f resting) M N closing a b h = (alike, h)
  kept_step (control n f resting) M N (asking_sample p x y) a b h = (alike_sample f M N h.0 p x y (judge_sample w.store_fits format f p x y) refl, h)
  kept_step (control n f resting) M N (asking_age c r) a b h = (alike_age f M N h.0 c r (judge_age w.ages_fit format f c r) refl, h)
  kept_step (control n f (open_to kind rd l)) M N (opening kind' rd' l') a b h = (alike, h)
  kept_step (control n f (open_to kind rd l)) M N (delivering segment bytes) a b h = deliver_any n f kind rd l M N segment bytes a b h (cases_eq segment k)
  kept_step (control n f (open_to kind rd l)) M N closing a b h =
      alike_closing n f kind rd l M N a b h.0 h.1.0 h.1.1 (judge_closing (all_fit w)) refl
  kept_step (control n f (open_to kind rd l)) M N (asking_sample p x y) a b h = (alike_sample f M N h.0 p x y (judge_sample w.store_fits format f p x y) refl, h)
  kept_step (control n f (open_to kind rd l)) M N (asking_age c r) a b h = (alike_age f M N h.0 c r (judge_age w.ages_fit format f c r) refl, h)

  elsewhere_in : (f : Option ℕ) (row : ℕ) → Elsewhere k f row → In (But k) f row
  elsewhere_in None row e = e
  elsewhere_in (Some l) row e = e

  same_shown : (C : Control) (M N : Contents) → Alike k format C M N → SameElsewhere format k (record { state = C; contents = M }) (record { state = C; contents = N })
  same_shown (control n f s) M N h =
      record {
        layouts = refl;
        samples = λ p x y i e. h.0.samples p x y i (elsewhere_in f (macroblock_row p y) e);
        ages = λ c r i e. h.0.ages c r i (elsewhere_in f r e);
      }

  others_run : {cs ds : List Calling} (e : Rewritten k cs ds) (C : Control) (M N : Contents) → Agrees w M → Agrees w N → Alike k format C M N
      → OthersUntouched w k e (record { state = C; contents = M }) (record { state = C; contents = N })
  unfolding Kept
  others_run over C M N a b h = tt
  others_run (kept c e) C M N a b h =
      let t = kept_step C M N c a b h in (
        t.0,
        same_shown (onward w C c) (after w C M c) (after w C N c) t.1,
        others_run e (onward w C c) (after w C M c) (after w C N c) (same_setting w C M c a) (same_setting w C N c b) t.1,
      )
  others_run (added bytes e) (control n f resting) M N a b h =
      (same_shown (control n f resting) M N h, others_run e (control n f resting) M N a b h)
  others_run (added bytes e) (control n f (open_to kind rd l)) M N a b h =
      let C = control n f (open_to kind rd l) in
      let t = other_sided C M N bytes b h in
      (same_shown C M (after w C N (delivering k bytes)) t, others_run e C M (after w C N (delivering k bytes)) a (same_setting w C N (delivering k bytes) b) t)
  others_run (omitted bytes e) (control n f resting) M N a b h =
      (same_shown (control n f resting) M N h, others_run e (control n f resting) M N a b h)
  others_run (omitted bytes e) (control n f (open_to kind rd l)) M N a b h =
      let C = control n f (open_to kind rd l) in
      let t = one_sided C M N bytes a h in
      (same_shown C (after w C M (delivering k bytes)) N t, others_run e C (after w C M (delivering k bytes)) N (same_setting w C M (delivering k bytes) a) b t)

pub isolated : (format : Format) (meaning : List ℤ → ℕ → ℕ → ℤ) (h : Held) (k : ℕ) (cs ds : List Calling) (e : Rewritten k cs ds)
    → OthersUntouched (setting_of format meaning h) k e (new h) (new h)
isolated format meaning h k cs ds e =
    others_run (setting_of format meaning h) k e (control 0 None resting) (unmarked h) (unmarked h) refl refl
    (record { samples = λ p x y i s. refl; ages = λ c r i s. refl }, tt)
