-- What is accepted depends neither on what the memory holds nor on the meaning of the transform.
use Rattle.std.proofs.Common.{◌≡◌, ℕ, ◌^◌, Bool, cond, List, [], ◌∷◌, map, ℤ, None, Ok, Err, Result, sym, refl, ap, ◌∙◌, subst}
use lib.Bits.{bit_or}
use Rattle.records.specs.declared.types.Macroblock.{Macroblock}
use Rattle.samples.specs.declared.prediction.Rounding.{Rounding}
use Rattle.pictures.specs.declared.formats.Format.{Format}
use Rattle.calls.specs.declared.answers.Answer.{Answer}
use Rattle.calls.specs.declared.answers.Answer.TheVariants.{Opened, Delivered, Closed, Sample, Age, Refused, OutOfTurn}
use Rattle.calls.specs.declared.faults.PictureFault.{PictureFault}
use Rattle.calls.specs.Held.{Held, fits_rest, fits_store, fits_table}
use Rattle.calls.specs.Questions.{judge_age, judge_closing, judge_delivery, judge_opening, judge_sample}
use Rattle.calls.specs.Laws.{AcceptedAlike, Book, FitAlike, empty_book, but_value, granted, log, noted, read_off}
use Rattle.calls.specs.Runs.{Calling, Contents, Control, Setting, State, after, all_fit, answer, control, delivered, finish, if_accepted, new, onward, open_to, replies, resting, setting_of, step, answer_or_refusal, unmarked, when_read}
use Rattle.calls.specs.declared.answers.Call.TheVariants.{Open as opening, Deliver as delivering, Close as closing, Sample as asking_sample, Age as asking_age}

-- whether a call is accepted does not rest on a value
granted_is : (a : Answer) → granted (but_value a) ≡ granted a
granted_is (Opened segments) = refl
granted_is (Delivered counts) = refl
granted_is (Closed bits) = refl
granted_is (Sample value) = refl
granted_is (Age age) = refl
granted_is (Refused f) = refl
granted_is OutOfTurn = refl

granted_same : (a b : Answer) → but_value a ≡ but_value b → granted a ≡ granted b
granted_same a b e = sym (granted_is a) ∙ (ap granted e ∙ granted_is b)

-- what one judgement makes of two answers, and of the accepted segments of two memories
answer_alike : (j : Result (Unit {0}) PictureFault) (a b : Answer) → but_value a ≡ but_value b → but_value (answer_or_refusal j a) ≡ but_value (answer_or_refusal j b)
answer_alike (Ok u) a b e = e
answer_alike (Err f) a b e = refl

if_accepted_alike : (j : Result (Unit {0}) PictureFault) (M N O P : Contents) → M.accepted ≡ N.accepted → O.accepted ≡ P.accepted
    → (if_accepted j M O).accepted ≡ (if_accepted j N P).accepted
if_accepted_alike (Ok u) M N O P e g = e
if_accepted_alike (Err f) M N O P e g = g

read_alike : (w v : Setting) (rounding : Rounding) (layout segment : ℕ) (j : Result (List Macroblock) PictureFault) (M N : Contents)
    → M.accepted ≡ N.accepted → (when_read w rounding layout segment j M).accepted ≡ (when_read v rounding layout segment j N).accepted
read_alike w v rounding layout segment (Ok records) M N e = ap (λ bits. bit_or bits (2 ^ segment)) e
read_alike w v rounding layout segment (Err f) M N e = e

abbrev reel : Control → Contents → State
reel C M = record { state = C; contents = M }

-- a setting by its sizes
abbrev fitting : Format → (List ℤ → ℕ → ℕ → ℤ) → Bool → Bool → Bool → Setting
fitting format meaning store ages rest = record { format = format; meaning = meaning; store_fits = store; ages_fit = ages; rest_fits = rest }

-- two runs of one list that have the sizes and the control in common
module _ (format : Format) (meaning other : List ℤ → ℕ → ℕ → ℤ) (store ages rest : Bool) where
  abbrev w : Setting
  w = fitting format meaning store ages rest

  abbrev v : Setting
  v = fitting format other store ages rest

  record StepAlike (C : Control) (M N : Contents) (c : Calling) : Type 0 where
    answered : but_value (answer w C M c) ≡ but_value (answer v C N c)
    controlled : onward w C c ≡ onward v C c
    accepted : (after w C M c).accepted ≡ (after v C N c).accepted

  step_alike : (C : Control) (M N : Contents) → M.accepted ≡ N.accepted → (c : Calling) → StepAlike C M N c
  step_alike (control n f resting) M N e (opening kind rounding layout) =
      record {
        answered = refl;
        controlled = refl;
        accepted = if_accepted_alike (judge_opening (all_fit w) format n f kind rounding layout) (unmarked M.held) (unmarked N.held) M N refl e;
      }
  step_alike (control n f resting) M N e (delivering segment bytes) = record { answered = refl; controlled = refl; accepted = e }
  step_alike (control n f resting) M N e closing = record { answered = refl; controlled = refl; accepted = e }
  step_alike (control n f resting) M N e (asking_sample p x y) =
      record { answered = answer_alike (judge_sample store format f p x y) _ _ refl; controlled = refl; accepted = e }
  step_alike (control n f resting) M N e (asking_age c r) =
      record { answered = answer_alike (judge_age ages format f c r) _ _ refl; controlled = refl; accepted = e }
  step_alike (control n f (open_to k rd l)) M N e (opening kind rounding layout) = record { answered = refl; controlled = refl; accepted = e }
  step_alike (control n f (open_to k rd l)) M N e (delivering segment bytes) =
      record {
        answered = ap (λ bits. but_value (delivered bytes (judge_delivery (all_fit w) format k l bits segment bytes))) e;
        controlled = refl;
        accepted =
            read_alike w v rd l segment (judge_delivery (all_fit w) format k l M.accepted segment bytes) M N e
            ∙ ap (λ bits. (when_read v rd l segment (judge_delivery (all_fit w) format k l bits segment bytes) N).accepted) e;
      }
  step_alike (control n f (open_to k rd l)) M N e closing =
      record {
        answered = ap (λ bits. but_value (answer_or_refusal (judge_closing (all_fit w)) (Closed bits))) e;
        controlled = refl;
        accepted = if_accepted_alike (judge_closing (all_fit w)) (finish format k l M) (finish format k l N) M N refl e;
      }
  step_alike (control n f (open_to k rd l)) M N e (asking_sample p x y) =
      record { answered = answer_alike (judge_sample store format f p x y) _ _ refl; controlled = refl; accepted = e }
  step_alike (control n f (open_to k rd l)) M N e (asking_age c r) =
      record { answered = answer_alike (judge_age ages format f c r) _ _ refl; controlled = refl; accepted = e }

  record RunAlike (R S : State) (cs : List Calling) : Type 0 where
    answers : map but_value (replies w R cs) ≡ map but_value (replies v S cs)
    book : (b : Book) → read_off format b (log w R cs) ≡ read_off format b (log v S cs)

  -- one call, and those after it
  then_alike : (C : Control) (M N : Contents) (c : Calling) (cs : List Calling) → StepAlike C M N c
      → RunAlike (step w (reel C M) c) (step v (reel C N) c) cs → RunAlike (reel C M) (reel C N) (c ∷ cs)
  then_alike C M N c cs s later =
      record {
        answers = ap (λ a. a ∷ map but_value (replies w (step w (reel C M) c) cs)) s.answered ∙ ap (λ heard. but_value (answer v C N c) ∷ heard) later.answers;
        book = λ b.
            ap (λ yes. read_off format (cond yes (noted format b c) b) (log w (step w (reel C M) c) cs))
            (granted_same (answer w C M c) (answer v C N c) s.answered)
            ∙ later.book (cond (granted (answer v C N c)) (noted format b c) b);
      }

  run_alike : (C : Control) (M N : Contents) → M.accepted ≡ N.accepted → (cs : List Calling) → RunAlike (reel C M) (reel C N) cs
  run_alike C M N e [] = record { answers = refl; book = λ b. refl }
  run_alike C M N e (c ∷ cs) =
      let s = step_alike C M N e c in
      then_alike C M N c cs s
      (subst (λ D. RunAlike (step w (reel C M) c) (reel D (after v C N c)) cs) s.controlled
      (run_alike (onward w C c) (after w C M c) (after v C N c) s.accepted cs))

  begun_alike : (h i : Held) (cs : List Calling) → AcceptedAlike w v h i cs
  begun_alike h i cs = record { answers = r.answers; counts = ap (λ b. b.closed_ones) (r.book empty_book) }
    where
      r : RunAlike (new h) (new i) cs
      r = run_alike (control 0 None resting) (unmarked h) (unmarked i) refl cs

-- memories that fit alike have the sizes in common
same_sizes : (format : Format) (meaning : List ℤ → ℕ → ℕ → ℤ) (h i : Held) → FitAlike format h i
    → fitting format meaning (fits_store format h.finished) (fits_table format h.finished_ages) (fits_rest format h) ≡ setting_of format meaning i
same_sizes format meaning h i fit = rw (fit.store, fit.ages, fit.rest) refl

pub accepted_alike : (format : Format) (meaning : List ℤ → ℕ → ℕ → ℤ) (h i : Held) (other : List ℤ → ℕ → ℕ → ℤ) → FitAlike format h i
    → (cs : List Calling) → AcceptedAlike (setting_of format meaning h) (setting_of format other i) h i cs
accepted_alike format meaning h i other fit cs =
    subst (λ v. AcceptedAlike (setting_of format meaning h) v h i cs) (same_sizes format other h i fit)
    (begun_alike format meaning other (fits_store format h.finished) (fits_table format h.finished_ages) (fits_rest format h) h i cs)
