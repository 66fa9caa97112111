-- What an accepted call says of the questions that were put to it.
use Rattle.std.proofs.Common.{◌≡◌, ℕ, ◌<◌, Bool, true, false, cond, not, ◌||◌, eqb, ltb, ◌⊎◌, List, Some, None, Ok, Err, Option, Result, refl, ap, inl, inr, arith}
use Rattle.std.proofs.lemmas.Bool.{eqb-true, false≢true, ltb-true}
use Rattle.records.specs.declared.faults.SegmentFault.{SegmentFault}
use Rattle.records.specs.declared.types.Macroblock.{Macroblock}
use Rattle.records.specs.declared.types.PictureKind.{PictureKind}
use Rattle.records.specs.declared.types.PictureKind.TheVariants as picture
use Rattle.records.specs.Deliveries.{read}
use Rattle.records.specs.Reading.{and_then, ask}
use Rattle.pictures.specs.declared.formats.Format.{Format}
use Rattle.pictures.specs.Pictures.{inside}
use Rattle.pictures.specs.Formats.{columns_of, rows_of}
use Rattle.pictures.specs.Segments.{has_bit, segment_count, sound}
use Rattle.calls.specs.declared.faults.PictureFault.{PictureFault}
use Rattle.calls.specs.declared.faults.PictureFault.TheVariants as fault
use Rattle.calls.specs.Questions.{fits_layout, has_layout, in_grid, is_finished, judge_age, judge_closing, judge_delivery, judge_opening, judge_sample, kind_of, macroblocks_in, passed, sound_kind}

-- a question that was passed has the answer yes, and so had those after it
pub asked : {X : Type 0} (b : Bool) (f : PictureFault) (next : Result X PictureFault) (x : X) → ask b f next ≡ Ok x → (b ≡ true) × (next ≡ Ok x)
asked true f next x e = (refl, e)
asked false f next x e = absurd (let z : ◌≡◌ {A = ℕ} 0 1 = cc in omega arith)

has_layout_lem : (f : Option ℕ) (layout : ℕ) → has_layout f layout ≡ true → f ≡ Some layout
has_layout_lem None layout e = absurd (false≢true e)
has_layout_lem (Some own) layout e = ap Some (eqb-true own layout e)

kept_layout : (t a : Bool) (f : Option ℕ) (layout : ℕ) → cond t a (has_layout f layout) ≡ true → (cond t picture.Intra picture.Inter ≡ picture.Intra) ⊎ (f ≡ Some layout)
kept_layout true a f layout e = inl refl
kept_layout false a f layout e = inr (has_layout_lem f layout e)

-- an accepted opening is of an INTRA picture, or has the finished picture's layout
pub opening_passed : (sized : Bool) (format : Format) (n : ℕ) (f : Option ℕ) (kind rounding layout : ℕ) (u : Unit {0}) → judge_opening sized format n f kind rounding layout ≡ Ok u
    → (sized ≡ true) × ((kind_of kind ≡ picture.Intra) ⊎ (f ≡ Some layout))
opening_passed sized format n f kind rounding layout u e =
    let e2 = asked sized fault.Size _ u e in
    let e3 = asked (ltb n 60000) fault.Limit _ u e2.1 in
    let e4 = asked (sound_kind kind rounding) fault.Kind _ u e3.1 in
    let e5 = asked (eqb kind 0 || is_finished f) fault.Unfinished _ u e4.1 in
    let e6 = asked (fits_layout format f kind layout) fault.Layout passed u e5.1 in
    (e2.0, kept_layout (eqb kind 0) (sound format layout) f layout e6.0)

read_passed : (r : Result (List Macroblock) SegmentFault) (records : List Macroblock) → and_then {F = PictureFault} fault.Segment r Ok ≡ Ok records → r ≡ Ok records
read_passed (Ok rs) records e = cc
read_passed (Err f) records e = absurd (let z : ◌≡◌ {A = ℕ} 0 1 = cc in omega arith)

-- an accepted delivery is of one of the segments, and was read
pub record Taken (sized : Bool) (format : Format) (kind : PictureKind) (layout segment : ℕ) (bytes : List ℕ) (records : List Macroblock) : Type 0 where
  pub fits : sized ≡ true
  pub segments : segment < segment_count format layout
  pub was_read : read kind (macroblocks_in format layout segment) bytes ≡ Ok records

pub delivery_passed : (sized : Bool) (format : Format) (kind : PictureKind) (layout accepted segment : ℕ) (bytes : List ℕ) (records : List Macroblock)
    → judge_delivery sized format kind layout accepted segment bytes ≡ Ok records → Taken sized format kind layout segment bytes records
delivery_passed sized format kind layout accepted segment bytes records e =
    let e2 = asked sized fault.Size _ records e in
    let e7 = asked (ltb segment (segment_count format layout)) fault.Number _ records e2.1 in
    let e8 = asked (not (has_bit accepted segment)) fault.Repeated _ records e7.1 in
    record { fits = e2.0; segments = ltb-true _ _ e7.0; was_read = read_passed (read kind (macroblocks_in format layout segment) bytes) records e8.1 }

-- a delivery is judged by the bit of its own segment alone
pub judged_same : (sized : Bool) (format : Format) (kind : PictureKind) (layout a b segment : ℕ) (bytes : List ℕ) → has_bit a segment ≡ has_bit b segment
    → judge_delivery sized format kind layout a segment bytes ≡ judge_delivery sized format kind layout b segment bytes
judged_same sized format kind layout a b segment bytes e =
    ap (λ had. ask sized fault.Size
    (ask (ltb segment (segment_count format layout)) fault.Number
    (ask (not had) fault.Repeated (and_then {F = PictureFault} fault.Segment (read kind (macroblocks_in format layout segment) bytes) Ok)))) e

pub closing_passed : (sized : Bool) (u : Unit {0}) → judge_closing sized ≡ Ok u → sized ≡ true
closing_passed sized u e = (asked sized fault.Size passed u e).0

pub sample_passed : (sized : Bool) (format : Format) (f : Option ℕ) (p x y : ℕ) (u : Unit {0}) → judge_sample sized format f p x y ≡ Ok u
    → (is_finished f ≡ true) × (inside (columns_of format) (rows_of format) p x y ≡ true)
sample_passed sized format f p x y u e =
    let e2 = asked sized fault.Size _ u e in
    let e5 = asked (is_finished f) fault.Unfinished _ u e2.1 in
    (e5.0, (asked (inside (columns_of format) (rows_of format) p x y) fault.Outside passed u e5.1).0)

pub age_passed : (sized : Bool) (format : Format) (f : Option ℕ) (c r : ℕ) (u : Unit {0}) → judge_age sized format f c r ≡ Ok u
    → (is_finished f ≡ true) × (in_grid format c r ≡ true)
age_passed sized format f c r u e =
    let e2 = asked sized fault.Size _ u e in
    let e5 = asked (is_finished f) fault.Unfinished _ u e2.1 in
    (e5.0, (asked (in_grid format c r) fault.Outside passed u e5.1).0)
