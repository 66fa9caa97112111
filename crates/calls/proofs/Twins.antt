-- Two reels that opened an INTRA picture alike are alike from its closing on.
use Rattle.std.proofs.Common.{◌≡◌, ℕ, ◌+◌, ◌^◌, Bool, true, false, ltb, ◌≢◌, ◌⊎◌, List, [], ◌∷◌, ℤ, Some, None, Ok, Err, Option, Result, sym, refl, ap, ◌∙◌, subst, inl, inr, arith}
use lib.Bits.{bit_or}
use Rattle.std.proofs.lemmas.Bool.{false≢true}
use Rattle.records.specs.declared.types.Macroblock.{Macroblock}
use Rattle.records.specs.declared.types.PictureKind.{PictureKind}
use Rattle.records.specs.declared.types.PictureKind.TheVariants as picture
use Rattle.records.specs.Reading.{ask}
use Rattle.samples.specs.declared.prediction.Rounding.{Rounding}
use Rattle.pictures.specs.declared.formats.Format.{Format}
use Rattle.pictures.specs.Segments.{segment_count}
use Rattle.calls.specs.declared.answers.Answer.{Answer}
use Rattle.calls.specs.declared.answers.Answer.TheVariants.{Opened, Closed, Sample, Age}
use Rattle.calls.specs.declared.faults.PictureFault.{PictureFault}
use Rattle.calls.specs.declared.faults.PictureFault.TheVariants as fault
use Rattle.calls.specs.Held.{Held}
use Rattle.calls.specs.Questions.{is_finished, judge_age, judge_closing, judge_delivery, judge_opening, judge_sample, kind_of, rounding_from}
use Rattle.calls.specs.Laws.{Limited, SamePicture, SameUntilLimit, WithoutClosing, macroblock_row}
use Rattle.calls.specs.Runs.{Calling, Contents, Control, Setting, Stage, State, after, all_fit, answer, control, delivered, finish, if_accepted, new, onward, open_to, reply, resting, run, setting_of, step, answer_or_refusal, age_answer, sample_answer, unmarked, when_read}
use Rattle.calls.specs.declared.answers.Call.TheVariants.{Open as opening, Deliver as delivering, Close as closing, Sample as asking_sample, Age as asking_age}
use Rattle.calls.proofs.Alike.{Based, FinishedAlike, In, WorkingAlike, both_deliver, both_finish, judged, keeps_finished, none_accepted, source}
use Rattle.calls.proofs.Sizes.{Agrees, one_setting, run_agrees, same_setting}
use Rattle.calls.proofs.Verdicts.{age_passed, closing_passed, judged_same, opening_passed, sample_passed}

-- every number
abbrev All : ℕ → Type 0
All j = Unit {0}

abbrev StageAlike : Format → Option ℕ → Stage → Contents → Contents → Type 0
StageAlike format f resting M N = Unit {0}
StageAlike format f (open_to kind rounding layout) M N = WorkingAlike All format layout M N × Based kind f layout × (M.accepted ≡ N.accepted)

-- reels alike but for the number of pictures opened
data Twin (format : Format) : Control → Control → Contents → Contents → Type 0 where
  twin : {n m : ℕ} {f : Option ℕ} {s : Stage} {M N : Contents} → is_finished f ≡ true → FinishedAlike All format f M N → StageAlike format f s M N
      → Twin format (control n f s) (control m f s) M N

-- reels with an INTRA picture open, whatever their finished pictures
data First (format : Format) : Control → Control → Contents → Contents → Type 0 where
  first : {n m : ℕ} {f g : Option ℕ} {rounding : Rounding} {layout : ℕ} {M N : Contents} → WorkingAlike All format layout M N → M.accepted ≡ N.accepted
      → First format (control n f (open_to picture.Intra rounding layout)) (control m g (open_to picture.Intra rounding layout)) M N

-- openings are judged alike but for the limit
limit : (u t t' : Bool) (rest : Result (Unit {0}) PictureFault) (a : Answer)
    → Limited (answer_or_refusal (ask u fault.Size (ask t fault.Limit rest)) a)
    ⊎ (Limited (answer_or_refusal (ask u fault.Size (ask t' fault.Limit rest)) a)
    ⊎ (ask u fault.Size (ask t fault.Limit rest) ≡ ask u fault.Size (ask t' fault.Limit rest)))
limit false t t' rest a = inr (inr refl)
limit true false t' rest a = inl refl
limit true true false rest a = inr (inl refl)
limit true true true rest a = inr (inr refl)

answer_same : (v : Result (Unit {0}) PictureFault) (a b : Answer) → ((u : Unit {0}) → v ≡ Ok u → a ≡ b) → answer_or_refusal v a ≡ answer_or_refusal v b
answer_same (Ok u) a b h = h u refl
answer_same (Err f) a b h = refl

shown : (f : Option ℕ) (row : ℕ) → is_finished f ≡ true → In All f row
shown None row e = false≢true e
shown (Some layout) row e = tt

module _ (w : Setting) where
  abbrev format : Format
  format = w.format

  same_sample : (f : Option ℕ) (M N : Contents) → FinishedAlike All format f M N → (p x y : ℕ) → sample_answer w f M p x y ≡ sample_answer w f N p x y
  same_sample f M N h p x y =
      answer_same (judge_sample w.store_fits format f p x y) _ _
      (λ u e. let t = sample_passed _ format f p x y u e in ap Sample (h.samples p x y t.1 (shown f (macroblock_row p y) t.0)))

  same_age : (f : Option ℕ) (M N : Contents) → FinishedAlike All format f M N → (c r : ℕ) → age_answer w f M c r ≡ age_answer w f N c r
  same_age f M N h c r =
      answer_same (judge_age w.ages_fit format f c r) _ _
      (λ u e. let t = age_passed _ format f c r u e in ap Age (h.ages c r t.1 (shown f r t.0)))

  same_accepted : (kind : PictureKind) (rd : Rounding) (l segment : ℕ) (bytes : List ℕ) (M N : Contents) → M.accepted ≡ N.accepted
      → (when_read w rd l segment (judged w kind l M segment bytes) M).accepted ≡ (when_read w rd l segment (judged w kind l N segment bytes) N).accepted
  same_accepted kind rd l segment bytes M N e =
      marked (judged w kind l M segment bytes) M
      ∙ (ap (λ t. marks_after (judge_delivery (all_fit w) format kind l t segment bytes) t) e ∙ sym (marked (judged w kind l N segment bytes) N))
    where
      marks_after : Result (List Macroblock) PictureFault → ℕ → ℕ
      marks_after (Err x) t = t
      marks_after (Ok ms) t = bit_or t (2 ^ segment)

      marked : (v : Result (List Macroblock) PictureFault) (O : Contents) → (when_read w rd l segment v O).accepted ≡ marks_after v O.accepted
      marked (Err x) O = refl
      marked (Ok ms) O = refl

  Outcome : Control → Control → Contents → Contents → Calling → Type 0
  Outcome C E M N c =
      Limited (answer w C M c)
      ⊎ (Limited (answer w E N c)
      ⊎ ((answer w C M c ≡ answer w E N c) × Twin format (onward w C c) (onward w E c) (after w C M c) (after w E N c)))

  twin_opening : (n m : ℕ) (f : Option ℕ) (M N : Contents) (kind rd l : ℕ) → is_finished f ≡ true → FinishedAlike All format f M N
      → (u v : Result (Unit {0}) PictureFault) → judge_opening (all_fit w) format n f kind rd l ≡ u → u ≡ v
      → (answer_or_refusal u (Opened (segment_count format l)) ≡ answer_or_refusal v (Opened (segment_count format l)))
      × Twin format (if_accepted u (control (n + 1) f (open_to (kind_of kind) (rounding_from rd) l)) (control n f resting))
      (if_accepted v (control (m + 1) f (open_to (kind_of kind) (rounding_from rd) l)) (control m f resting))
      (if_accepted u (unmarked M.held) M) (if_accepted v (unmarked N.held) N)
  twin_opening n m f M N kind rd l o h (Ok u) (Ok v) e g = (
    refl,
    twin o (record { samples = h.samples; ages = h.ages }) (none_accepted All w l M N, (opening_passed (all_fit w) format n f kind rd l u e).1, refl),
  )
  twin_opening n m f M N kind rd l o h (Err q) (Err r) e g = (ap (λ v. answer_or_refusal v (Opened (segment_count format l))) g, twin o h tt)
  twin_opening n m f M N kind rd l o h (Ok u) (Err r) e g = absurd (let z : ◌≡◌ {A = ℕ} 0 1 = cc in omega arith)
  twin_opening n m f M N kind rd l o h (Err q) (Ok v) e g = absurd (let z : ◌≡◌ {A = ℕ} 0 1 = cc in omega arith)

  opening_outcome : (n m : ℕ) (f : Option ℕ) (M N : Contents) (kind rd l : ℕ) → is_finished f ≡ true → FinishedAlike All format f M N
      → Limited (answer w (control n f resting) M (opening kind rd l))
      ⊎ (Limited (answer w (control m f resting) N (opening kind rd l))
      ⊎ (judge_opening (all_fit w) format n f kind rd l ≡ judge_opening (all_fit w) format m f kind rd l))
      → Outcome (control n f resting) (control m f resting) M N (opening kind rd l)
  unfolding Outcome
  opening_outcome n m f M N kind rd l o h (inl x) = inl x
  opening_outcome n m f M N kind rd l o h (inr (inl x)) = inr (inl x)
  opening_outcome n m f M N kind rd l o h (inr (inr e)) =
      inr (inr (twin_opening n m f M N kind rd l o h (judge_opening (all_fit w) format n f kind rd l) (judge_opening (all_fit w) format m f kind rd l) refl e))

  twin_closing : (n m : ℕ) (f : Option ℕ) (kind : PictureKind) (rd : Rounding) (l : ℕ) (M N : Contents) → Agrees w M → Agrees w N → is_finished f ≡ true
      → FinishedAlike All format f M N → WorkingAlike All format l M N → Based kind f l → M.accepted ≡ N.accepted
      → (v : Result (Unit {0}) PictureFault) → judge_closing (all_fit w) ≡ v
      → Twin format (if_accepted v (control n (Some l) resting) (control n f (open_to kind rd l))) (if_accepted v (control m (Some l) resting) (control m f (open_to kind rd l)))
      (if_accepted v (finish format kind l M) M) (if_accepted v (finish format kind l N) N)
  twin_closing n m f kind rd l M N a b o h al s e (Ok u) q =
      twin refl (both_finish All w kind f l M N a b (closing_passed (all_fit w) u q) (source All format kind f l M N h s) al) tt
  twin_closing n m f kind rd l M N a b o h al s e (Err x) q = twin o h (al, s, e)

  same_closed : (v : Result (Unit {0}) PictureFault) (M N : Contents) → M.accepted ≡ N.accepted → answer_or_refusal v (Closed M.accepted) ≡ answer_or_refusal v (Closed N.accepted)
  same_closed v M N e = ap (λ t. answer_or_refusal v (Closed t)) e

  twin_step : (C E : Control) (M N : Contents) → Agrees w M → Agrees w N → Twin format C E M N → (c : Calling) → Outcome C E M N c
  unfolding Outcome
  twin_step C E M N a b (twin {n = n} {m = m} {f = f} {s = resting} o h t) (opening kind rd l) =
      opening_outcome n m f M N kind rd l o h (limit (all_fit w) (ltb n 60000) (ltb m 60000) _ _)
  twin_step C E M N a b (twin {n = n} {m = m} {f = f} {s = resting} o h t) (delivering segment bytes) = inr (inr (refl, twin o h tt))
  twin_step C E M N a b (twin {n = n} {m = m} {f = f} {s = resting} o h t) closing = inr (inr (refl, twin o h tt))
  twin_step C E M N a b (twin {n = n} {m = m} {f = f} {s = resting} o h t) (asking_sample p x y) = inr (inr (same_sample f M N h p x y, twin o h tt))
  twin_step C E M N a b (twin {n = n} {m = m} {f = f} {s = resting} o h t) (asking_age c r) = inr (inr (same_age f M N h c r, twin o h tt))
  twin_step C E M N a b (twin {n = n} {m = m} {f = f} {s = open_to k rd l} o h t) (opening kind rounding layout) = inr (inr (refl, twin o h t))
  twin_step C E M N a b (twin {n = n} {m = m} {f = f} {s = open_to k rd l} o h t) (delivering segment bytes) =
      inr (inr (
        ap (delivered bytes) (judged_same (all_fit w) format k l M.accepted N.accepted segment bytes (t.0.accepted segment tt)),
        twin o (keeps_finished All w f rd l segment M N (judged w k l M segment bytes) (judged w k l N segment bytes) h)
            (both_deliver All w k rd f l segment bytes M N a b tt (source All format k f l M N h t.1) t.0, t.1, same_accepted k rd l segment bytes M N t.2),
      ))
  twin_step C E M N a b (twin {n = n} {m = m} {f = f} {s = open_to k rd l} o h t) closing =
      inr (inr (same_closed (judge_closing (all_fit w)) M N t.2, twin_closing n m f k rd l M N a b o h t.0 t.1 t.2 (judge_closing (all_fit w)) refl))
  twin_step C E M N a b (twin {n = n} {m = m} {f = f} {s = open_to k rd l} o h t) (asking_sample p x y) = inr (inr (same_sample f M N h p x y, twin o h t))
  twin_step C E M N a b (twin {n = n} {m = m} {f = f} {s = open_to k rd l} o h t) (asking_age c r) = inr (inr (same_age f M N h c r, twin o h t))

  same_shown : (C E : Control) (M N : Contents) → Twin format C E M N → SamePicture format (record { state = C; contents = M }) (record { state = E; contents = N })
  same_shown C E M N (twin {n = n} {m = m} {f = f} {s = s} o h t) =
      record {
        layouts = refl;
        samples = λ p x y i. h.samples p x y i (shown f (macroblock_row p y) o);
        ages = λ c r i. h.ages c r i (shown f r o);
      }

  same_outcome : (R S : State) (c : Calling) (cs : List Calling) → Outcome R.state S.state R.contents S.contents c
      → (Twin format (step w R c).state (step w S c).state (step w R c).contents (step w S c).contents → SameUntilLimit w w (step w R c) (step w S c) cs)
      → SameUntilLimit w w R S (c ∷ cs)
  unfolding Outcome
  same_outcome R S c cs (inl x) go = inl x
  same_outcome R S c cs (inr (inl x)) go = inr (inl x)
  same_outcome R S c cs (inr (inr x)) go =
      inr (inr (x.0, same_shown (step w R c).state (step w S c).state (step w R c).contents (step w S c).contents x.1, go x.1))

  twin_run : (R S : State) (cs : List Calling) → Agrees w R.contents → Agrees w S.contents → Twin format R.state S.state R.contents S.contents
      → SameUntilLimit w w R S cs
  twin_run R S [] a b t = tt
  twin_run R S (c ∷ cs) a b t =
      same_outcome R S c cs (twin_step R.state S.state R.contents S.contents a b t c)
      (twin_run (step w R c) (step w S c) cs (same_setting w R.state R.contents c a) (same_setting w S.state S.contents c b))

  -- the INTRA picture, from its opening on
  first_verdicts : (n m : ℕ) (f g : Option ℕ) (M N : Contents) (rd l p q : ℕ) (u v : Result (Unit {0}) PictureFault)
      → answer_or_refusal u (Opened (segment_count format l)) ≡ Opened p → answer_or_refusal v (Opened (segment_count format l)) ≡ Opened q
      → First format (if_accepted u (control (n + 1) f (open_to picture.Intra (rounding_from rd) l)) (control n f resting))
      (if_accepted v (control (m + 1) g (open_to picture.Intra (rounding_from rd) l)) (control m g resting))
      (if_accepted u (unmarked M.held) M) (if_accepted v (unmarked N.held) N)
  first_verdicts n m f g M N rd l p q (Ok u) (Ok v) d e = first (none_accepted All w l M N) refl
  first_verdicts n m f g M N rd l p q (Ok u) (Err x) d e = absurd (let z : ◌≡◌ {A = ℕ} 0 1 = cc in omega arith)
  first_verdicts n m f g M N rd l p q (Err x) v d e = absurd (let z : ◌≡◌ {A = ℕ} 0 1 = cc in omega arith)

  first_opening : (C E : Control) (M N : Contents) (rd l p q : ℕ)
      → answer w C M (opening 0 rd l) ≡ Opened p → answer w E N (opening 0 rd l) ≡ Opened q
      → First format (onward w C (opening 0 rd l)) (onward w E (opening 0 rd l)) (after w C M (opening 0 rd l)) (after w E N (opening 0 rd l))
  first_opening (control n f resting) (control m g resting) M N rd l p q d e =
      first_verdicts n m f g M N rd l p q (judge_opening (all_fit w) format n f 0 rd l) (judge_opening (all_fit w) format m g 0 rd l) d e
  first_opening (control n f resting) (control m g (open_to k r o)) M N rd l p q d e = absurd (let z : ◌≡◌ {A = ℕ} 0 1 = cc in omega arith)
  first_opening (control n f (open_to k r o)) E M N rd l p q d e = absurd (let z : ◌≡◌ {A = ℕ} 0 1 = cc in omega arith)

  first_step : (C E : Control) (M N : Contents) → Agrees w M → Agrees w N → First format C E M N → (c : Calling) → c ≢ closing
      → First format (onward w C c) (onward w E c) (after w C M c) (after w E N c)
  first_step C E M N a b (first {n = n} {m = m} {f = f} {g = g} {rounding = rd} {layout = l} al e) (opening kind rounding layout) h = first al e
  first_step C E M N a b (first {n = n} {m = m} {f = f} {g = g} {rounding = rd} {layout = l} al e) (delivering segment bytes) h =
      first (both_deliver All w picture.Intra rd f l segment bytes M N a b tt (inl refl) al) (same_accepted picture.Intra rd l segment bytes M N e)
  first_step C E M N a b (first {n = n} {m = m} {f = f} {g = g} {rounding = rd} {layout = l} al e) closing h = absurd (h refl)
  first_step C E M N a b (first {n = n} {m = m} {f = f} {g = g} {rounding = rd} {layout = l} al e) (asking_sample p x y) h = first al e
  first_step C E M N a b (first {n = n} {m = m} {f = f} {g = g} {rounding = rd} {layout = l} al e) (asking_age c r) h = first al e

  first_run : (R S : State) (cs : List Calling) → Agrees w R.contents → Agrees w S.contents → First format R.state S.state R.contents S.contents
      → WithoutClosing cs → First format (run w R cs).state (run w S cs).state (run w R cs).contents (run w S cs).contents
  first_run R S [] a b t h = t
  first_run R S (c ∷ cs) a b t h =
      first_run (step w R c) (step w S c) cs (same_setting w R.state R.contents c a) (same_setting w S.state S.contents c b)
      (first_step R.state S.state R.contents S.contents a b t c h.0) h.1

  closed_first : (n m : ℕ) (f g : Option ℕ) (rd : Rounding) (l : ℕ) (M N : Contents) → Agrees w M → Agrees w N → all_fit w ≡ true → WorkingAlike All format l M N
      → (u : Bool) → u ≡ true
      → Twin format (if_accepted (judge_closing u) (control n (Some l) resting) (control n f (open_to picture.Intra rd l)))
      (if_accepted (judge_closing u) (control m (Some l) resting) (control m g (open_to picture.Intra rd l)))
      (if_accepted (judge_closing u) (finish format picture.Intra l M) M) (if_accepted (judge_closing u) (finish format picture.Intra l N) N)
  closed_first n m f g rd l M N a b fits al true e = twin refl (both_finish All w picture.Intra f l M N a b fits (inl refl) al) tt
  closed_first n m f g rd l M N a b fits al false e = absurd (false≢true e)

  first_closing : (C E : Control) (M N : Contents) → Agrees w M → Agrees w N → First format C E M N → all_fit w ≡ true → Outcome C E M N closing
  unfolding Outcome
  first_closing C E M N a b (first {n = n} {m = m} {f = f} {g = g} {rounding = rd} {layout = l} al e) fits =
      inr (inr (same_closed (judge_closing (all_fit w)) M N e, closed_first n m f g rd l M N a b fits al (all_fit w) fits))

  fits_verdict : (v : Result (Unit {0}) PictureFault) (n : ℕ) (f : Option ℕ) (kind rd l p : ℕ) → judge_opening (all_fit w) format n f kind rd l ≡ v
      → answer_or_refusal v (Opened (segment_count format l)) ≡ Opened p → all_fit w ≡ true
  fits_verdict (Ok u) n f kind rd l p e d = (opening_passed (all_fit w) format n f kind rd l u e).0
  fits_verdict (Err x) n f kind rd l p e d = absurd (let z : ◌≡◌ {A = ℕ} 0 1 = cc in omega arith)

  fits_opening : (C : Control) (M : Contents) (kind rd l p : ℕ) → answer w C M (opening kind rd l) ≡ Opened p → all_fit w ≡ true
  fits_opening (control n f resting) M kind rd l p d = fits_verdict (judge_opening (all_fit w) format n f kind rd l) n f kind rd l p refl d
  fits_opening (control n f (open_to k r q)) M kind rd l p d = absurd (let z : ◌≡◌ {A = ℕ} 0 1 = cc in omega arith)

  -- in one setting
  afresh_in : (R S : State) (rounding layout m n : ℕ) (during later : List Calling) → Agrees w R.contents → Agrees w S.contents
      → reply w R (opening 0 rounding layout) ≡ Opened m → reply w S (opening 0 rounding layout) ≡ Opened n → WithoutClosing during
      → SameUntilLimit w w (run w R (opening 0 rounding layout ∷ during)) (run w S (opening 0 rounding layout ∷ during)) (closing ∷ later)
  afresh_in R S rd l m n during later a b d e h =
      let c = opening 0 rd l in
      let X = run w R (c ∷ during) in
      let Y = run w S (c ∷ during) in
      let a' = run_agrees w R (c ∷ during) a in
      let b' = run_agrees w S (c ∷ during) b in
      let t : First format X.state Y.state X.contents Y.contents
      = first_run (step w R c) (step w S c) during (same_setting w R.state R.contents c a) (same_setting w S.state S.contents c b)
      (first_opening R.state S.state R.contents S.contents rd l m n d e) h in
      same_outcome X Y closing later
      (first_closing X.state Y.state X.contents Y.contents a' b' t (fits_opening R.state R.contents 0 rd l m d))
      (twin_run (step w X closing) (step w Y closing) later (same_setting w X.state X.contents closing a') (same_setting w Y.state Y.contents closing b'))

pub afresh : (format : Format) (meaning : List ℤ → ℕ → ℕ → ℤ) (h i : Held) (before other : List Calling) (rounding layout m n : ℕ) (during later : List Calling)
    → reply (setting_of format meaning h) (run (setting_of format meaning h) (new h) before) (opening 0 rounding layout) ≡ Opened m
    → reply (setting_of format meaning i) (run (setting_of format meaning i) (new i) other) (opening 0 rounding layout) ≡ Opened n
    → WithoutClosing during
    → SameUntilLimit (setting_of format meaning h) (setting_of format meaning i)
    (run (setting_of format meaning h) (run (setting_of format meaning h) (new h) before) (opening 0 rounding layout ∷ during))
    (run (setting_of format meaning i) (run (setting_of format meaning i) (new i) other) (opening 0 rounding layout ∷ during))
    (closing ∷ later)
afresh format meaning h i before other rd l m n during later d g e =
    let w = setting_of format meaning h in
    let v = setting_of format meaning i in
    let R = run w (new h) before in
    let S = run v (new i) other in
    let one : w ≡ v = one_setting w v refl refl (fits_opening w R.state R.contents 0 rd l m d) (fits_opening v S.state S.contents 0 rd l n g) in
    let P : Setting → Type 0 =
    λ u. Agrees u (unmarked i) → reply u (run u (new i) other) (opening 0 rd l) ≡ Opened n
    → SameUntilLimit w u (run w R (opening 0 rd l ∷ during)) (run u (run u (new i) other) (opening 0 rd l ∷ during)) (closing ∷ later) in
    subst P one
    (λ a x. afresh_in w R (run w (new i) other) rd l m n during later (run_agrees w (new h) before refl) (run_agrees w (new i) other a) d x e)
    refl g
