-- Two memories that agree on the segments of some numbers, P, and what a delivery and a closing make of them.
use Rattle.std.proofs.Common.{◌≡◌, ℕ, ◌^◌, ◌<◌, Bool, true, false, cond, eqb, ◌⊎◌, List, length, Some, None, Ok, Err, Option, Result, sym, refl, ap, ◌∙◌, subst, inl, inr, arith}
use lib.Bits.{bit_or}
use Rattle.std.proofs.lemmas.Result.{IfOk-at_ok}
use Rattle.std.proofs.lemmas.Bool.{both_ways, eqb-false, eqb-true}
use Rattle.records.specs.declared.types.Macroblock.{Macroblock}
use Rattle.records.specs.declared.types.PictureKind.{PictureKind}
use Rattle.records.specs.declared.types.PictureKind.TheVariants as picture
use Rattle.records.specs.Deliveries.{Whole, intra_at}
use Rattle.records.proofs.Wholes.{reads_whole}
use Rattle.samples.specs.declared.prediction.Rounding.{Rounding}
use Rattle.samples.specs.Ages.{next_age, older}
use Rattle.pictures.specs.declared.formats.Format.{Format}
use Rattle.pictures.specs.Segments.{has_bit, segment_at, segment_of_row}
use Rattle.rebuild.specs.Rebuilt.{count_of}
use Rattle.records.proofs.Wholes.{all_there}
use Rattle.calls.specs.declared.faults.PictureFault.{PictureFault}
use Rattle.calls.specs.Questions.{in_grid, judge_delivery}
use Rattle.calls.specs.Effects.{age_at, fill_age, fill_sample, segment_rebuilt}
use Rattle.calls.specs.Laws.{coded_intra, in_picture, macroblock_row}
use Rattle.calls.specs.Runs.{Contents, Setting, all_fit, finish, taken, unmarked, when_read}
use Rattle.calls.proofs.Bits.{other_bit, set_bit, zero_bit}
use Rattle.calls.proofs.Pointwise.{SameSources, closed_age, closed_sample, coded_intra_lem, kept_sample, made_age, own_sample}
use Rattle.calls.proofs.Sizes.{Agrees, Sized, sized}
use Rattle.calls.proofs.Verdicts.{Taken, delivery_passed, judged_same}

-- a row of the finished picture lies in a segment whose number is in P
abbrev pub In : (ℕ → Type 0) → Option ℕ → ℕ → Type 0
In P None row = ⊥
In P (Some layout) row = P (segment_of_row layout row)

pub record FinishedAlike (P : ℕ → Type 0) (format : Format) (f : Option ℕ) (M N : Contents) : Type 0 where
  pub samples : (p x y : ℕ) → in_picture format p x y ≡ true → In P f (macroblock_row p y) → M.held.finished.sample p x y ≡ N.held.finished.sample p x y
  pub ages : (c r : ℕ) → in_grid format c r ≡ true → In P f r → age_at format M.held.finished_ages c r ≡ age_at format N.held.finished_ages c r

pub record WorkingAlike (P : ℕ → Type 0) (format : Format) (layout : ℕ) (M N : Contents) : Type 0 where
  pub accepted : (j : ℕ) → P j → has_bit M.accepted j ≡ has_bit N.accepted j
  pub samples : (p x y : ℕ) → in_picture format p x y ≡ true → P (segment_of_row layout (macroblock_row p y))
      → has_bit M.accepted (segment_of_row layout (macroblock_row p y)) ≡ true → M.held.working.sample p x y ≡ N.held.working.sample p x y
  pub ages : (c r : ℕ) → in_grid format c r ≡ true → P (segment_of_row layout r)
      → has_bit M.accepted (segment_of_row layout r) ≡ true → age_at format M.held.working_ages c r ≡ age_at format N.held.working_ages c r

-- an open picture is INTRA, or has the finished picture's layout
abbrev pub Based : PictureKind → Option ℕ → ℕ → Type 0
Based kind f layout = (kind ≡ picture.Intra) ⊎ (f ≡ Some layout)

-- and then agreeing finished places
abbrev pub Source : (P : ℕ → Type 0) (format : Format) (kind : PictureKind) (f : Option ℕ) (layout : ℕ) (M N : Contents) → Type 0
Source P format kind f layout M N = (kind ≡ picture.Intra) ⊎ ((f ≡ Some layout) × FinishedAlike P format f M N)

pub source : (P : ℕ → Type 0) (format : Format) (kind : PictureKind) (f : Option ℕ) (layout : ℕ) (M N : Contents)
    → FinishedAlike P format f M N → Based kind f layout → Source P format kind f layout M N
source P format kind f layout M N h (inl z) = inl z
source P format kind f layout M N h (inr e) = inr (e, h)

-- in an INTRA picture all records of a segment are INTRA
pub all_intra : (sized : Bool) (format : Format) (kind : PictureKind) (layout segment : ℕ) (bytes : List ℕ) (ms : List Macroblock)
    → Taken sized format kind layout segment bytes ms → kind ≡ picture.Intra → (j : ℕ) → j < count_of (segment_at format layout segment) → intra_at ms j ≡ true
all_intra sized format kind layout segment bytes ms t z = (IfOk-at_ok (Whole kind _) t.was_read (reads_whole kind _ bytes)).intra z

pub all_read : (sized : Bool) (format : Format) (kind : PictureKind) (layout segment : ℕ) (bytes : List ℕ) (ms : List Macroblock)
    → Taken sized format kind layout segment bytes ms → length ms ≡ count_of (segment_at format layout segment)
all_read sized format kind layout segment bytes ms t = all_there kind _ bytes ms t.was_read

-- the records that a delivery is judged to have, or its fault
abbrev pub judged : Setting → PictureKind → ℕ → Contents → ℕ → List ℕ → Result (List Macroblock) PictureFault
judged w kind layout M segment bytes = judge_delivery (all_fit w) w.format kind layout M.accepted segment bytes

-- the cases of what a delivery sets: u, whether the row is the segment's; m, whether its segment was accepted before
picked : (u m : Bool) (A B A' B' : ℕ) → (u ≡ true → A ≡ A') → (m ≡ true → B ≡ B') → cond u true m ≡ true → cond u A B ≡ cond u A' B'
picked true m A B A' B' g h e = g refl
picked false m A B A' B' g h e = h e

-- the cases of what closing sets: m and n, whether the segment was accepted
closed_up : (m n : Bool) (W W' F F' : ℕ) → m ≡ n → (m ≡ true → W ≡ W') → F ≡ F' → cond m W F ≡ cond n W' F'
closed_up true n W W' F F' e g h = g refl ∙ ap (λ t. cond t W' F') e
closed_up false n W W' F F' e g h = h ∙ ap (λ t. cond t W' F') e

module _ (P : ℕ → Type 0) (w : Setting) where
  abbrev format : Format
  format = w.format

  -- what stands in for samples and ages that were not delivered
  same_fill : (kind : PictureKind) (f : Option ℕ) (layout : ℕ) (M N : Contents) → Source P format kind f layout M N
      → (p x y : ℕ) → in_picture format p x y ≡ true → P (segment_of_row layout (macroblock_row p y))
      → fill_sample kind M.held.finished p x y ≡ fill_sample kind N.held.finished p x y
  same_fill picture.Intra f layout M N so p x y i s = refl
  same_fill picture.Inter f layout M N (inl z) p x y i s = absurd (let z : ◌≡◌ {A = ℕ} 0 1 = cc in omega arith)
  same_fill picture.Inter f layout M N (inr h) p x y i s = h.1.samples p x y i (subst (λ g. In P g (macroblock_row p y)) (sym h.0) s)

  same_fill_age : (kind : PictureKind) (f : Option ℕ) (layout : ℕ) (M N : Contents) → Source P format kind f layout M N
      → (c r : ℕ) → in_grid format c r ≡ true → P (segment_of_row layout r)
      → fill_age kind (age_at format M.held.finished_ages c r) ≡ fill_age kind (age_at format N.held.finished_ages c r)
  same_fill_age picture.Intra f layout M N so c r i s = refl
  same_fill_age picture.Inter f layout M N (inl z) c r i s = absurd (let z : ◌≡◌ {A = ℕ} 0 1 = cc in omega arith)
  same_fill_age picture.Inter f layout M N (inr h) c r i s = ap older (h.1.ages c r i (subst (λ g. In P g r) (sym h.0) s))

  module _ (kind : PictureKind) (rounding : Rounding) (f : Option ℕ) (layout segment : ℕ) (bytes : List ℕ) (M N : Contents)
      (a : Agrees w M) (b : Agrees w N) (q : P segment) where
    module _ (ms : List Macroblock) (t : Taken (all_fit w) format kind layout segment bytes ms) where
      own : Source P format kind f layout M N → SameSources format layout segment ms M.held N.held
      own (inl z) = inl (all_intra _ format kind layout segment bytes ms t z)
      own (inr h) =
          inr (λ p x y i e. h.1.samples p x y i (subst (λ g. In P g (macroblock_row p y)) (sym h.0) (subst P (sym (eqb-true _ _ e)) q)))

      same_next : Source P format kind f layout M N → (c r : ℕ) → in_grid format c r ≡ true → eqb (segment_of_row layout r) segment ≡ true
          → next_age (coded_intra format layout segment ms c r) (age_at format M.held.finished_ages c r)
          ≡ next_age (coded_intra format layout segment ms c r) (age_at format N.held.finished_ages c r)
      same_next (inl z) c r i e = rw (coded_intra_lem format layout segment ms (all_intra _ format kind layout segment bytes ms t z) c r i e) refl
      same_next (inr h) c r i e =
          ap (next_age (coded_intra format layout segment ms c r)) (h.1.ages c r i (subst (λ g. In P g r) (sym h.0) (subst P (sym (eqb-true _ _ e)) q)))

      -- a delivery that both accept
      both_taken : Source P format kind f layout M N → WorkingAlike P format layout M N
          → WorkingAlike P format layout (taken w rounding layout segment ms M) (taken w rounding layout segment ms N)
      both_taken so al =
          record {
            accepted = λ j s. set_bit M.accepted segment j ∙ (ap (cond (eqb j segment) true) (al.accepted j s) ∙ sym (set_bit N.accepted segment j));
            samples = λ p x y i s e. sample p x y i s e (eqb (segment_of_row layout (macroblock_row p y)) segment) refl;
            ages = λ c r i s e.
                made_age format w.meaning layout segment rounding ms there M.held z c r i
                ∙ picked (eqb (segment_of_row layout r) segment) (has_bit M.accepted (segment_of_row layout r)) _ _ _ _
                (same_next so c r i) (al.ages c r i s) (sym (set_bit M.accepted segment (segment_of_row layout r)) ∙ e)
                ∙ sym (made_age format w.meaning layout segment rounding ms there N.held z' c r i);
          }
        where
          there : length ms ≡ count_of (segment_at format layout segment)
          there = all_read _ format kind layout segment bytes ms t

          z : Sized format M.held
          z = sized w M a t.fits

          z' : Sized format N.held
          z' = sized w N b t.fits

          sample : (p x y : ℕ) → in_picture format p x y ≡ true → P (segment_of_row layout (macroblock_row p y))
              → has_bit (bit_or M.accepted (2 ^ segment)) (segment_of_row layout (macroblock_row p y)) ≡ true
              → (u : Bool) → eqb (segment_of_row layout (macroblock_row p y)) segment ≡ u
              → (taken w rounding layout segment ms M).held.working.sample p x y ≡ (taken w rounding layout segment ms N).held.working.sample p x y
          sample p x y i s e true u =
              own_sample format w.meaning layout segment rounding ms there M.held N.held z z' t.segments (own so) p x y i u
          sample p x y i s e false u =
              kept_sample format w.meaning layout segment rounding ms there M.held p x y i u
              ∙ al.samples p x y i s (sym (other_bit M.accepted segment _ (eqb-false _ _ u)) ∙ e)
              ∙ sym (kept_sample format w.meaning layout segment rounding ms there N.held p x y i u)

    -- judged once
    both_read : Source P format kind f layout M N → WorkingAlike P format layout M N
        → (v : Result (List Macroblock) PictureFault) → judged w kind layout M segment bytes ≡ v
        → WorkingAlike P format layout (when_read w rounding layout segment v M) (when_read w rounding layout segment v N)
    both_read so al (Err x) e = al
    both_read so al (Ok ms) e = both_taken ms (delivery_passed (all_fit w) format kind layout M.accepted segment bytes ms e) so al

    -- both accept or both refuse a delivery of a number in P
    pub both_deliver : Source P format kind f layout M N → WorkingAlike P format layout M N
        → WorkingAlike P format layout (when_read w rounding layout segment (judged w kind layout M segment bytes) M) (when_read w rounding layout segment (judged w kind layout N segment bytes) N)
    both_deliver so al =
        subst (λ v. WorkingAlike P format layout (when_read w rounding layout segment (judged w kind layout M segment bytes) M) (when_read w rounding layout segment v N))
        (judged_same (all_fit w) format kind layout M.accepted N.accepted segment bytes (al.accepted segment q))
        (both_read so al (judged w kind layout M segment bytes) refl)

  -- both close
  pub both_finish : (kind : PictureKind) (f : Option ℕ) (layout : ℕ) (M N : Contents) → Agrees w M → Agrees w N → all_fit w ≡ true
      → Source P format kind f layout M N → WorkingAlike P format layout M N
      → FinishedAlike P format (Some layout) (finish format kind layout M) (finish format kind layout N)
  both_finish kind f layout M N a b fits so al =
      record {
        samples = λ p x y i s.
            closed_sample format kind layout M.accepted M.held (sized w M a fits) p x y i
            ∙ closed_up _ _ _ _ _ _ (al.accepted _ s) (al.samples p x y i s) (same_fill kind f layout M N so p x y i s)
            ∙ sym (closed_sample format kind layout N.accepted N.held (sized w N b fits) p x y i);
        ages = λ c r i s.
            closed_age format kind layout M.accepted M.held (sized w M a fits) c r i
            ∙ closed_up _ _ _ _ _ _ (al.accepted _ s) (al.ages c r i s) (same_fill_age kind f layout M N so c r i s)
            ∙ sym (closed_age format kind layout N.accepted N.held (sized w N b fits) c r i);
      }

  -- deliveries change nothing finished
  pub keeps_finished : (f : Option ℕ) (rounding : Rounding) (layout segment : ℕ) (M N : Contents) (u v : Result (List Macroblock) PictureFault)
      → FinishedAlike P format f M N → FinishedAlike P format f (when_read w rounding layout segment u M) (when_read w rounding layout segment v N)
  unfolding segment_rebuilt
  keeps_finished f rounding layout segment M N (Err x) (Err y) h = h
  keeps_finished f rounding layout segment M N (Err x) (Ok y) h = record { samples = h.samples; ages = h.ages }
  keeps_finished f rounding layout segment M N (Ok x) (Err y) h = record { samples = h.samples; ages = h.ages }
  keeps_finished f rounding layout segment M N (Ok x) (Ok y) h = record { samples = h.samples; ages = h.ages }

  -- an opened picture has nothing yet
  pub none_accepted : (layout : ℕ) (M N : Contents) → WorkingAlike P format layout (unmarked M.held) (unmarked N.held)
  none_accepted layout M N =
      record {
        accepted = λ j s. refl;
        samples = λ p x y i s t. absurd (both_ways _ (zero_bit _) t);
        ages = λ c r i s t. absurd (both_ways _ (zero_bit _) t);
      }
