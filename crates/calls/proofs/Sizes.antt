-- No call changes the sizes of the memory.
use Rattle.std.proofs.Common.{◌≡◌, ℕ, suc, ◌+◌, ◌-◌, ◌<◌, ◌≤◌, true, ◌&&◌, eqb, List, [], ◌∷◌, length, drop, ℤ, Ok, Err, Result, sym, refl, ap, ◌∙◌, mul_comm, arith}
use Rattle.std.proofs.lemmas.Nat.{mul-le}
use Rattle.std.proofs.lemmas.Bool.{and_from, and_parts, eq-eqb, eqb-true}
use Rattle.records.specs.declared.types.Macroblock.{Macroblock}
use Rattle.records.specs.declared.types.PictureKind.{PictureKind}
use Rattle.samples.specs.declared.prediction.Rounding.{Rounding}
use Rattle.motion.specs.Cells.{ages_of, marks_of}
use Rattle.motion.specs.Vectors.{vectors_of}
use Rattle.motion.proofs.Gathered.{ages_length, marks_length, vectors_length}
use Rattle.pictures.specs.declared.formats.Format.{Format}
use Rattle.pictures.specs.declared.formats.Format.TheVariants.{SubQcif, Qcif, Cif}
use Rattle.pictures.specs.Formats.{columns_of, rows_of}
use Rattle.pictures.specs.Segments.{first_row, segment_at}
use Rattle.pictures.proofs.Rows.{segmented}
use Rattle.rebuild.specs.Rebuilt.{count_of, first_cell, width_of}
use Rattle.records.proofs.Wholes.{all_there}
use Rattle.rebuild.proofs.Cells.{rows_join}
use Rattle.calls.specs.declared.faults.PictureFault.{PictureFault}
use Rattle.calls.specs.Held.{Held, cells_of, fits, fits_store, fits_table}
use Rattle.calls.specs.Questions.{judge_closing, judge_delivery, judge_opening}
use Rattle.calls.specs.Effects.{filled_picture, picture_closed, segment_rebuilt}
use Rattle.calls.specs.Runs.{Calling, Contents, Control, Setting, State, after, all_fit, control, finish, if_accepted, open_to, resting, run, setting_of, step, unmarked, when_read}
use Rattle.calls.specs.declared.answers.Call.TheVariants.{Open as opening, Deliver as delivering, Close as closing, Sample as asking_sample, Age as asking_age}
use Rattle.calls.proofs.Tables.{filled_length, set_length}
use Rattle.calls.proofs.Verdicts.{closing_passed, delivery_passed}

-- the memory has the size of a format
pub record Sized (format : Format) (h : Held) : Type 0 where
  pub finished_wide : h.finished.wide ≡ columns_of format
  pub finished_high : h.finished.high ≡ rows_of format
  pub working_wide : h.working.wide ≡ columns_of format
  pub working_high : h.working.high ≡ rows_of format
  pub finished_ages : length h.finished_ages ≡ cells_of format
  pub working_ages : length h.working_ages ≡ cells_of format
  pub vectors : length h.vectors ≡ cells_of format
  pub marks : length h.marks ≡ cells_of format

-- the sizes are those that a setting says
abbrev pub Agrees : Setting → Contents → Type 0
Agrees w M = setting_of w.format w.meaning M.held ≡ w

-- what it says that all parts fit
pub fitting : (format : Format) (h : Held) → fits format h ≡ true → Sized format h
fitting f h e =
    let t1 = and_parts (fits_store f h.finished) _ e in
    let t2 = and_parts (fits_table f h.finished_ages) _ t1.1 in
    let t3 = and_parts (fits_store f h.working) _ t2.1 in
    let t4 = and_parts (fits_table f h.working_ages) _ t3.1 in
    let t5 = and_parts (fits_table f h.vectors) (fits_table f h.marks) t4.1 in
    let s = and_parts (eqb h.finished.wide (columns_of f)) _ t1.0 in
    let u = and_parts (eqb h.working.wide (columns_of f)) _ t3.0 in
    record {
      finished_wide = eqb-true _ _ s.0;
      finished_high = eqb-true _ _ s.1;
      working_wide = eqb-true _ _ u.0;
      working_high = eqb-true _ _ u.1;
      finished_ages = eqb-true _ _ t2.0;
      working_ages = eqb-true _ _ t4.0;
      vectors = eqb-true _ _ t5.0;
      marks = eqb-true _ _ t5.1;
    }

pub sized : (w : Setting) (M : Contents) → Agrees w M → all_fit w ≡ true → Sized w.format M.held
sized w M e a = fitting w.format M.held (ap all_fit e ∙ a)

-- settings of one format and meaning in which all fits are one
pub one_setting : (w v : Setting) → w.format ≡ v.format → w.meaning ≡ v.meaning → all_fit w ≡ true → all_fit v ≡ true → w ≡ v
one_setting w v e m a b =
    let a1 = and_parts w.store_fits (w.ages_fit && w.rest_fits) a in
    let a2 = and_parts w.ages_fit w.rest_fits a1.1 in
    let b1 = and_parts v.store_fits (v.ages_fit && v.rest_fits) b in
    let b2 = and_parts v.ages_fit v.rest_fits b1.1 in
    let s : w.store_fits ≡ v.store_fits = a1.0 ∙ sym b1.0 in
    let g : w.ages_fit ≡ v.ages_fit = a2.0 ∙ sym b2.0 in
    let o : w.rest_fits ≡ v.rest_fits = a2.1 ∙ sym b2.1 in
    λ i. record { format = e i; meaning = m i; store_fits = s i; ages_fit = g i; rest_fits = o i }

agrees : (w : Setting) (M : Contents) → Sized w.format M.held → all_fit w ≡ true → Agrees w M
agrees w M s a =
    one_setting (setting_of w.format w.meaning M.held) w refl refl
    (and_from _ _ (and_from _ _ (eq-eqb _ _ s.finished_wide) (eq-eqb _ _ s.finished_high))
    (and_from _ _ (eq-eqb _ _ s.finished_ages)
    (and_from _ _ (and_from _ _ (eq-eqb _ _ s.working_wide) (eq-eqb _ _ s.working_high))
    (and_from _ _ (eq-eqb _ _ s.working_ages) (and_from _ _ (eq-eqb _ _ s.vectors) (eq-eqb _ _ s.marks))))))
    a

-- a picture has a column
pub some_column : (format : Format) → 0 < columns_of format
some_column SubQcif = omega arith
some_column Qcif = omega arith
some_column Cif = omega arith

-- the cells of a segment are some of the picture's
pub cells_fit : (format : Format) (layout k : ℕ) → first_cell (segment_at format layout k) + count_of (segment_at format layout k) ≤ cells_of format
cells_fit format layout k =
    let g = segmented format layout in
    let w : columns_of format - 0 ≡ columns_of format = omega arith in
    let j = rows_join (first_row format layout k) (first_row format layout (suc k)) (columns_of format) (g.in_order k) in
    let m = mul-le (first_row format layout (suc k)) (columns_of format) (rows_of format) (columns_of format) (g.in_picture k) (omega arith) in
    let c = mul_comm (rows_of format) (columns_of format) in
    rw w (omega arith)

module _ (format : Format) (meaning : List ℤ → ℕ → ℕ → ℤ) (layout k : ℕ) (rounding : Rounding) (records : List Macroblock) (h : Held) where
  pub delivered_sized : length records ≡ count_of (segment_at format layout k) → Sized format h → Sized format (segment_rebuilt meaning (segment_at format layout k) rounding records h)
  unfolding segment_rebuilt
  delivered_sized l s =
      let f = cells_fit format layout k in
      let g = segment_at format layout k in
      let fs = drop (first_cell g) h.finished_ages in
      record {
        finished_wide = s.finished_wide;
        finished_high = s.finished_high;
        working_wide = s.working_wide;
        working_high = s.working_high;
        finished_ages = s.finished_ages;
        working_ages = set_length (first_cell g) (ages_of records fs) h.working_ages (omega (arith, ages_length records fs, s.working_ages)) ∙ s.working_ages;
        vectors = set_length (first_cell g) (vectors_of (width_of g) records) h.vectors (omega (arith, vectors_length (width_of g) records, s.vectors)) ∙ s.vectors;
        marks = set_length (first_cell g) (marks_of records) h.marks (omega (arith, marks_length records, s.marks)) ∙ s.marks;
      }

closed_sized : (format : Format) (kind : PictureKind) (layout accepted : ℕ) (h : Held) → Sized format h → Sized format (picture_closed format kind layout accepted h)
unfolding picture_closed filled_picture
closed_sized format kind layout accepted h s =
    record {
      finished_wide = s.working_wide;
      finished_high = s.working_high;
      working_wide = s.working_wide;
      working_high = s.working_high;
      finished_ages = filled_length _ kind 0 h.finished_ages h.working_ages ∙ s.working_ages;
      working_ages = filled_length _ kind 0 h.finished_ages h.working_ages ∙ s.working_ages;
      vectors = s.vectors;
      marks = s.marks;
    }

module _ (w : Setting) where
  opened_same : (M : Contents) → Agrees w M → (v : Result (Unit {0}) PictureFault) → Agrees w (if_accepted v (unmarked M.held) M)
  opened_same M e (Ok u) = e
  opened_same M e (Err f) = e

  delivered_same : (M : Contents) → Agrees w M → (kind : PictureKind) (r : Rounding) (l segment : ℕ) (bytes : List ℕ) (v : Result (List Macroblock) PictureFault)
      → judge_delivery (all_fit w) w.format kind l M.accepted segment bytes ≡ v → Agrees w (when_read w r l segment v M)
  delivered_same M e kind r l segment bytes (Err f) j = e
  delivered_same M e kind r l segment bytes (Ok records) j =
      let t = delivery_passed (all_fit w) w.format kind l M.accepted segment bytes records j in
      agrees w (when_read w r l segment (Ok records) M)
      (delivered_sized w.format w.meaning l segment r records M.held (all_there kind _ bytes records t.was_read) (sized w M e t.fits))
      t.fits

  closed_same : (M : Contents) → Agrees w M → (kind : PictureKind) (l : ℕ) (v : Result (Unit {0}) PictureFault) → judge_closing (all_fit w) ≡ v
      → Agrees w (if_accepted v (finish w.format kind l M) M)
  closed_same M e kind l (Err f) j = e
  closed_same M e kind l (Ok u) j =
      let a = closing_passed (all_fit w) u j in
      agrees w (finish w.format kind l M) (closed_sized w.format kind l M.accepted M.held (sized w M e a)) a

pub same_setting : (w : Setting) (C : Control) (M : Contents) (c : Calling) → setting_of w.format w.meaning M.held ≡ w
    → setting_of w.format w.meaning (after w C M c).held ≡ w
same_setting w (control n f resting) M (opening kind rounding layout) e = opened_same w M e (judge_opening (all_fit w) w.format n f kind rounding layout)
same_setting w (control n f resting) M (delivering segment bytes) e = e
same_setting w (control n f resting) M closing e = e
same_setting w (control n f resting) M (asking_sample plane across down) e = e
same_setting w (control n f resting) M (asking_age column row) e = e
same_setting w (control n f (open_to k r l)) M (opening kind rounding layout) e = e
same_setting w (control n f (open_to k r l)) M (delivering segment bytes) e =
    delivered_same w M e k r l segment bytes (judge_delivery (all_fit w) w.format k l M.accepted segment bytes) refl
same_setting w (control n f (open_to k r l)) M closing e = closed_same w M e k l (judge_closing (all_fit w)) refl
same_setting w (control n f (open_to k r l)) M (asking_sample plane across down) e = e
same_setting w (control n f (open_to k r l)) M (asking_age column row) e = e

pub run_agrees : (w : Setting) (R : State) (cs : List Calling) → Agrees w R.contents → Agrees w (run w R cs).contents
run_agrees w R [] e = e
run_agrees w R (c ∷ cs) e = run_agrees w (step w R c) cs (same_setting w R.state R.contents c e)
