-- Ages are what the calls and their answers count.
use Rattle.std.proofs.Common.{◌≡◌, ℕ, suc, ◌+◌, ◌^◌, min, Bool, true, false, cond, not, ◌&&◌, ◌||◌, eqb, List, [], ◌∷◌, ℤ, Some, None, Ok, Err, Option, Result, sym, refl, ap, ◌∙◌, subst, inl, inr, arith}
use lib.Bits.{bit_or}
use Rattle.std.proofs.lemmas.Bool.{both_ways, false≢true, ne_eqb}
use Rattle.records.specs.declared.types.Macroblock.{Macroblock}
use Rattle.records.specs.declared.types.PictureKind.{PictureKind}
use Rattle.records.specs.declared.types.PictureKind.TheVariants as picture
use Rattle.samples.specs.declared.prediction.Rounding.{Rounding}
use Rattle.samples.specs.Ages.{next_age, older}
use Rattle.pictures.specs.declared.formats.Format.{Format}
use Rattle.pictures.specs.Segments.{has_bit, segment_count, segment_of_row}
use Rattle.rebuild.proofs.Cells.{delivery_records_are}
use Rattle.calls.specs.declared.answers.Answer.TheVariants.{Opened, Closed, Age}
use Rattle.calls.specs.declared.faults.PictureFault.{PictureFault}
use Rattle.calls.specs.Held.{Held}
use Rattle.calls.specs.Questions.{in_grid, judge_age, judge_closing, judge_delivery, judge_opening, kind_of, rounding_from}
use Rattle.calls.specs.Effects.{age_at, fill_age, segment_rebuilt}
use Rattle.calls.specs.Laws.{Aged, Book, Coding, age_by, empty_book, coded_since, coded_intra, count, records_of_segment, granted, is_intra_picture, log, noted, read_off}
use Rattle.calls.specs.Runs.{Calling, Contents, Control, Setting, Stage, State, after, all_fit, answer, control, delivered, finish, finished_of, if_accepted, new, onward, open_to, resting, run, setting_of, step, taken, answer_or_refusal, unmarked, when_read}
use Rattle.calls.specs.declared.answers.Call.TheVariants.{Open as opening, Deliver as delivering, Close as closing, Sample as asking_sample, Age as asking_age}
use Rattle.calls.proofs.Alike.{Based, all_intra, all_read}
use Rattle.calls.proofs.Bits.{set_bit, zero_bit}
use Rattle.calls.proofs.Pointwise.{closed_age, coded_intra_lem, made_age}
use Rattle.calls.proofs.Sizes.{Agrees, same_setting, sized}
use Rattle.calls.proofs.Verdicts.{Taken, age_passed, closing_passed, delivery_passed, opening_passed}

-- the count, and whether there is one, together
data Since : Type 0 where
  not_coded : Since
  ago : ℕ → Since

abbrev one_more : Since → Since
one_more not_coded = not_coded
one_more (ago n) = ago (suc n)

abbrev since : ℕ → ℕ → List Coding → Since
since c r [] = not_coded
since c r (p ∷ ps) = cond (p.intra c r) (ago 0) (cond (is_intra_picture p.kind) not_coded (one_more (since c r ps)))

abbrev age_after : Since → ℕ
age_after not_coded = 255
age_after (ago n) = min 250 n

-- they are what the two say apart
abbrev joined : Bool → ℕ → Since
joined true n = ago n
joined false n = not_coded

join_more : (t z s : Bool) (n : ℕ) → cond t (ago 0) (cond z not_coded (one_more (joined s n))) ≡ joined (t || (not z && s)) (cond t 0 (suc n))
join_more true z s n = refl
join_more false true s n = refl
join_more false false true n = refl
join_more false false false n = refl

since_is : (c r : ℕ) (ps : List Coding) → since c r ps ≡ joined (coded_since c r ps) (count c r ps)
since_is c r [] = refl
since_is c r (p ∷ ps) =
    ap (λ s. cond (p.intra c r) (ago 0) (cond (is_intra_picture p.kind) not_coded (one_more s))) (since_is c r ps)
    ∙ join_more (p.intra c r) (is_intra_picture p.kind) (coded_since c r ps) (count c r ps)

joined_age : (t : Bool) (n : ℕ) → age_after (joined t n) ≡ cond t (min 250 n) 255
joined_age true n = refl
joined_age false n = refl

age_is : (c r : ℕ) (ps : List Coding) → age_after (since c r ps) ≡ age_by c r ps
age_is c r ps = ap age_after (since_is c r ps) ∙ joined_age (coded_since c r ps) (count c r ps)

-- one more picture adds one to the count, and one to the age
older_count : (s : Since) → older (age_after s) ≡ age_after (one_more s)
older_count not_coded = refl
older_count (ago n) =
    let no255 : eqb (min 250 n) 255 ≡ false = ne_eqb (min 250 n) 255 (λ e. omega arith) in
    let s : min (min 250 n + 1) 250 ≡ min 250 (suc n) = omega arith in
    rw no255 s

-- the finished ages are those of the pictures closed
abbrev ClosedAges : Format → Option ℕ → Contents → Book → Type 0
ClosedAges format None M b = Unit {0}
ClosedAges format (Some layout) M b = (c r : ℕ) → in_grid format c r ≡ true → age_at format M.held.finished_ages c r ≡ age_after (since c r b.closed_ones)

-- the book of an open picture: the working ages of the accepted segments are by what it tells, and it tells nothing of the others
record BookOpen (format : Format) (f : Option ℕ) (M : Contents) (b : Book) (kind : PictureKind) (layout : ℕ) : Type 0 where
  kind_is : b.coding.kind ≡ kind
  layout_is : b.layout ≡ layout
  based : Based kind f layout
  in_accepted : (c r : ℕ) → in_grid format c r ≡ true → has_bit M.accepted (segment_of_row layout r) ≡ true
      → age_at format M.held.working_ages c r ≡ next_age (b.coding.intra c r) (age_at format M.held.finished_ages c r)
  in_rest : (c r : ℕ) → in_grid format c r ≡ true → has_bit M.accepted (segment_of_row layout r) ≡ false → b.coding.intra c r ≡ false
  in_intra : kind ≡ picture.Intra → (c r : ℕ) → in_grid format c r ≡ true → has_bit M.accepted (segment_of_row layout r) ≡ true → b.coding.intra c r ≡ true

abbrev OpenAges : Format → Option ℕ → Stage → Contents → Book → Type 0
OpenAges format f resting M b = Unit {0}
OpenAges format f (open_to kind rounding layout) M b = BookOpen format f M b kind layout

abbrev Counted : Format → Control → Contents → Book → Type 0
Counted format (control n f s) M b = ClosedAges format f M b × OpenAges format f s M b

-- the cases of what a delivery sets: t, whether the row is the segment's; q and i, whether the macroblock is coded INTRA by it, and was before
set_accepted : (t q i m : Bool) (W A : ℕ) → (m ≡ true → W ≡ next_age i A) → cond t true m ≡ true → cond t (next_age q A) W ≡ next_age (cond t q i) A
set_accepted true q i m W A h e = refl
set_accepted false q i m W A h e = h e

set_rest : (t q i m : Bool) → (m ≡ false → i ≡ false) → cond t true m ≡ false → cond t q i ≡ false
set_rest true q i m h e = absurd (false≢true (sym e))
set_rest false q i m h e = h e

set_intra : (t q i m : Bool) → (t ≡ true → q ≡ true) → (m ≡ true → i ≡ true) → cond t true m ≡ true → cond t q i ≡ true
set_intra true q i m g h e = g refl
set_intra false q i m g h e = h e

-- the cases of what closing sets: m, whether the segment was accepted; i, whether the macroblock is coded INTRA
close_age : (m : Bool) (kind : PictureKind) (i : Bool) (W A : ℕ) (s : Since)
    → (m ≡ true → W ≡ next_age i A) → (m ≡ false → i ≡ false) → (kind ≡ picture.Intra → m ≡ true → i ≡ true) → (kind ≡ picture.Inter → A ≡ age_after s)
    → cond m W (fill_age kind A) ≡ age_after (cond i (ago 0) (cond (is_intra_picture kind) not_coded (one_more s)))
close_age true kind true W A s p q g h = p refl
close_age true picture.Intra false W A s p q g h = absurd (false≢true (g refl refl))
close_age true picture.Inter false W A s p q g h = p refl ∙ (ap older (h refl) ∙ older_count s)
close_age false kind true W A s p q g h = absurd (false≢true (sym (q refl)))
close_age false picture.Intra false W A s p q g h = refl
close_age false picture.Inter false W A s p q g h = ap older (h refl) ∙ older_count s

module _ (w : Setting) where
  abbrev format : Format
  format = w.format

  abbrev booked : Control → Contents → Book → Calling → Book
  booked C M b c = cond (granted (answer w C M c)) (noted format b c) b

  same_closed : (f : Option ℕ) (M N : Contents) (b d : Book) → M.held.finished_ages ≡ N.held.finished_ages → b.closed_ones ≡ d.closed_ones
      → ClosedAges format f M b → ClosedAges format f N d
  same_closed None M N b d e g h = tt
  same_closed (Some layout) M N b d e g h =
      λ c r i. sym (ap (λ (ages : List ℕ). age_at format ages c r) e) ∙ (h c r i ∙ ap (λ ps. age_after (since c r ps)) g)

  counted_opening : (n : ℕ) (f : Option ℕ) (M : Contents) (b : Book) (kind rounding layout : ℕ) → ClosedAges format f M b
      → (v : Result (Unit {0}) PictureFault) → judge_opening (all_fit w) format n f kind rounding layout ≡ v
      → Counted format (if_accepted v (control (n + 1) f (open_to (kind_of kind) (rounding_from rounding) layout)) (control n f resting))
      (if_accepted v (unmarked M.held) M)
      (cond (granted (answer_or_refusal v (Opened (segment_count format layout)))) (noted format b (opening kind rounding layout)) b)
  counted_opening n f M b kind rounding layout h (Err x) e = (h, tt)
  counted_opening n f M b kind rounding layout h (Ok u) e = (
    same_closed f M (unmarked M.held) b (noted format b (opening kind rounding layout)) refl refl h,
    record {
      kind_is = refl;
      layout_is = refl;
      based = (opening_passed (all_fit w) format n f kind rounding layout u e).1;
      in_accepted = λ c r i t. absurd (both_ways _ (zero_bit _) t);
      in_rest = λ c r i t. refl;
      in_intra = λ z c r i t. absurd (both_ways _ (zero_bit _) t);
    },
  )

  counted_delivery : (n : ℕ) (f : Option ℕ) (k : PictureKind) (rd : Rounding) (l : ℕ) (M : Contents) (b : Book) (segment : ℕ) (bytes : List ℕ) → Agrees w M
      → ClosedAges format f M b → BookOpen format f M b k l
      → (v : Result (List Macroblock) PictureFault) → judge_delivery (all_fit w) format k l M.accepted segment bytes ≡ v
      → Counted format (control n f (open_to k rd l)) (when_read w rd l segment v M)
      (cond (granted (delivered bytes v)) (noted format b (delivering segment bytes)) b)
  unfolding segment_rebuilt
  counted_delivery n f k rd l M b segment bytes a h o (Err x) e = (h, o)
  counted_delivery n f k rd l M b segment bytes a h o (Ok ms) e = (
    same_closed f M (taken w rd l segment ms M) b (noted format b (delivering segment bytes)) refl refl h,
    record {
      kind_is = o.kind_is;
      layout_is = o.layout_is;
      based = o.based;
      in_accepted = λ c r i t.
          made_age format w.meaning l segment rd ms (all_read _ format k l segment bytes ms was) M.held (sized w M a was.fits) c r i
          ∙ set_accepted (own r) (coded c r) (b.coding.intra c r) (has_bit M.accepted (segment_of_row l r)) _ _ (o.in_accepted c r i) (was_set r ∙ t)
          ∙ ap (λ u. next_age u (age_at format M.held.finished_ages c r)) (sym (same c r));
      in_rest = λ c r i t.
          same c r ∙ set_rest (own r) (coded c r) (b.coding.intra c r) (has_bit M.accepted (segment_of_row l r)) (o.in_rest c r i) (was_set r ∙ t);
      in_intra = λ z c r i t.
          same c r
          ∙ set_intra (own r) (coded c r) (b.coding.intra c r) (has_bit M.accepted (segment_of_row l r))
          (coded_intra_lem format l segment ms (all_intra _ format k l segment bytes ms was z) c r i) (o.in_intra z c r i) (was_set r ∙ t);
    },
  )
    where
      own : ℕ → Bool
      own r = eqb (segment_of_row l r) segment

      coded : ℕ → ℕ → Bool
      coded c r = coded_intra format l segment ms c r

      was : Taken (all_fit w) format k l segment bytes ms
      was = delivery_passed (all_fit w) format k l M.accepted segment bytes ms e

      was_set : (r : ℕ) → cond (own r) true (has_bit M.accepted (segment_of_row l r)) ≡ has_bit (bit_or M.accepted (2 ^ segment)) (segment_of_row l r)
      was_set r = sym (set_bit M.accepted segment (segment_of_row l r))

      same : (c r : ℕ)
          → cond (eqb (segment_of_row b.layout r) segment)
          (coded_intra format b.layout segment (records_of_segment format b.coding.kind b.layout segment bytes) c r) (b.coding.intra c r)
          ≡ cond (own r) (coded c r) (b.coding.intra c r)
      same c r = rw (o.kind_is, o.layout_is, delivery_records_are k _ bytes ms was.was_read) refl

  based_ages : (f : Option ℕ) (k : PictureKind) (l : ℕ) (M : Contents) (b : Book) → Based k f l → ClosedAges format f M b
      → (c r : ℕ) → in_grid format c r ≡ true → k ≡ picture.Inter → age_at format M.held.finished_ages c r ≡ age_after (since c r b.closed_ones)
  based_ages f k l M b (inl z) h c r i nz = absurd (let z : ◌≡◌ {A = ℕ} 0 1 = cc in omega arith)
  based_ages f k l M b (inr e) h c r i nz = let g : ClosedAges format (Some l) M b = subst (λ x. ClosedAges format x M b) e h in g c r i

  counted_closing : (n : ℕ) (f : Option ℕ) (k : PictureKind) (rd : Rounding) (l : ℕ) (M : Contents) (b : Book) → Agrees w M
      → ClosedAges format f M b → BookOpen format f M b k l → (v : Result (Unit {0}) PictureFault) → judge_closing (all_fit w) ≡ v
      → Counted format (if_accepted v (control n (Some l) resting) (control n f (open_to k rd l))) (if_accepted v (finish format k l M) M)
      (cond (granted (answer_or_refusal v (Closed M.accepted))) (noted format b closing) b)
  counted_closing n f k rd l M b a h o (Err x) e = (h, o)
  counted_closing n f k rd l M b a h o (Ok u) e = (
    λ c r i.
        closed_age format k l M.accepted M.held (sized w M a (closing_passed (all_fit w) u e)) c r i
        ∙ close_age (has_bit M.accepted (segment_of_row l r)) k (b.coding.intra c r) _ _ (since c r b.closed_ones)
        (o.in_accepted c r i) (o.in_rest c r i) (λ z t. o.in_intra z c r i t) (based_ages f k l M b o.based h c r i)
        ∙ ap (λ x. age_after (cond (b.coding.intra c r) (ago 0) (cond (is_intra_picture x) not_coded (one_more (since c r b.closed_ones)))))
        (sym o.kind_is),
    tt,
  )

  -- a question adds nothing
  asked : (t : Bool) (C : Control) (M : Contents) (b : Book) → Counted format C M b → Counted format C M (cond t b b)
  asked true C M b h = h
  asked false C M b h = h

  counted_step : (C : Control) (M : Contents) (b : Book) (c : Calling) → Agrees w M → Counted format C M b → Counted format (onward w C c) (after w C M c) (booked C M b c)
  counted_step (control n f resting) M b (opening kind rounding layout) a h =
      counted_opening n f M b kind rounding layout h.0 (judge_opening (all_fit w) format n f kind rounding layout) refl
  counted_step (control n f resting) M b (delivering segment bytes) a h = h
  counted_step (control n f resting) M b closing a h = h
  counted_step (control n f resting) M b (asking_sample p x y) a h = let C = control n f resting in asked (granted (answer w C M (asking_sample p x y))) C M b h
  counted_step (control n f resting) M b (asking_age c r) a h = let C = control n f resting in asked (granted (answer w C M (asking_age c r))) C M b h
  counted_step (control n f (open_to k rd l)) M b (opening kind rounding layout) a h = h
  counted_step (control n f (open_to k rd l)) M b (delivering segment bytes) a h =
      counted_delivery n f k rd l M b segment bytes a h.0 h.1 (judge_delivery (all_fit w) format k l M.accepted segment bytes) refl
  counted_step (control n f (open_to k rd l)) M b closing a h = counted_closing n f k rd l M b a h.0 h.1 (judge_closing (all_fit w)) refl
  counted_step (control n f (open_to k rd l)) M b (asking_sample p x y) a h =
      let C = control n f (open_to k rd l) in asked (granted (answer w C M (asking_sample p x y))) C M b h
  counted_step (control n f (open_to k rd l)) M b (asking_age c r) a h =
      let C = control n f (open_to k rd l) in asked (granted (answer w C M (asking_age c r))) C M b h

  counted_run : (R : State) (b : Book) (cs : List Calling) → Agrees w R.contents → Counted format R.state R.contents b
      → Counted format (run w R cs).state (run w R cs).contents (read_off format b (log w R cs))
  counted_run R b [] a h = h
  counted_run R b (c ∷ cs) a h =
      counted_run (step w R c) (booked R.state R.contents b c) cs (same_setting w R.state R.contents c a) (counted_step R.state R.contents b c a h)

  shown_ages : (C : Control) (M : Contents) (b : Book) → Counted format C M b → (layout : ℕ) → finished_of C ≡ Some layout
      → (c r : ℕ) → in_grid format c r ≡ true → age_at format M.held.finished_ages c r ≡ age_after (since c r b.closed_ones)
  shown_ages (control n f s) M b h layout e =
      let g : ClosedAges format (Some layout) M b = subst (λ x. ClosedAges format x M b) e h.0 in g

  asked_age : (f : Option ℕ) (M : Contents) (b : Book) → ClosedAges format f M b → (c r a : ℕ)
      → (v : Result (Unit {0}) PictureFault) → judge_age w.ages_fit format f c r ≡ v → answer_or_refusal v (Age (age_at format M.held.finished_ages c r)) ≡ Age a
      → a ≡ age_after (since c r b.closed_ones)
  asked_age f M b h c r a (Err q) e d = absurd (let z : ◌≡◌ {A = ℕ} 0 1 = cc in omega arith)
  asked_age None M b h c r a (Ok u) e d = absurd (false≢true (age_passed w.ages_fit format None c r u e).0)
  asked_age (Some layout) M b h c r a (Ok u) e d =
      let i = (age_passed w.ages_fit format (Some layout) c r u e).1 in
      let s : age_at format M.held.finished_ages c r ≡ a = cc in
      sym s ∙ h c r i

  asked_ages : (C : Control) (M : Contents) (b : Book) → Counted format C M b → (c r a : ℕ) → answer w C M (asking_age c r) ≡ Age a
      → a ≡ age_after (since c r b.closed_ones)
  asked_ages (control n f resting) M b h c r a e = asked_age f M b h.0 c r a (judge_age w.ages_fit format f c r) refl e
  asked_ages (control n f (open_to k rd l)) M b h c r a e = asked_age f M b h.0 c r a (judge_age w.ages_fit format f c r) refl e

pub ages_counted : (format : Format) (meaning : List ℤ → ℕ → ℕ → ℤ) (h : Held) (cs : List Calling) → Aged (setting_of format meaning h) h cs
ages_counted format meaning h cs =
    let w = setting_of format meaning h in
    let R = run w (new h) cs in
    let b = read_off format empty_book (log w (new h) cs) in
    let t : Counted format R.state R.contents b = counted_run w (new h) empty_book cs refl (tt, tt) in
    record {
      shown = λ c r i layout e. shown_ages w R.state R.contents b t layout e c r i ∙ age_is c r b.closed_ones;
      asked = λ c r a e. asked_ages w R.state R.contents b t c r a e ∙ age_is c r b.closed_ones;
    }
