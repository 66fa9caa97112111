-- What an accepted delivery and a closing make of each sample and each age, in memory of the format's size.
use Rattle.std.proofs.Common.{◌≡◌, ℕ, suc, ◌+◌, ◌-◌, ◌*◌, ◌/◌, ◌<◌, ◌≤◌, Bool, true, false, cond, not, ◌&&◌, eqb, ltb, ◌⊎◌, List, length, get_or, drop, ℤ, None, Option, sym, refl, ap, ◌∙◌, subst, inl, inr, arith}
use Rattle.std.proofs.lemmas.Nat.{div-mul-add}
use Rattle.std.proofs.lemmas.List.{get_or-drop}
use Rattle.std.proofs.lemmas.Bool.{and_from, and_parts, cond-true, le-leb, leb-true, lt-ltb, ltb-true}
use Rattle.records.specs.declared.types.Macroblock.{Macroblock}
use Rattle.records.specs.declared.types.PictureKind.{PictureKind}
use Rattle.records.specs.Deliveries.{intra_at}
use Rattle.samples.specs.declared.prediction.Rounding.{Rounding}
use Rattle.samples.specs.Ages.{next_age}
use Rattle.samples.specs.Prediction.{rounding_of}
use Rattle.motion.specs.Cells.{ages_of, marks_of}
use Rattle.motion.specs.Vectors.{vectors_of}
use Rattle.motion.proofs.Gathered.{ages_length, marks_length}
use Rattle.pictures.specs.declared.formats.Format.{Format}
use Rattle.pictures.specs.declared.layouts.Segment.{Segment}
use Rattle.pictures.specs.Formats.{columns_of, rows_of}
use Rattle.pictures.specs.Pictures.{Picture, covers, has}
use Rattle.pictures.specs.Segments.{first_row, has_bit, segment_at, segment_count, segment_of_row}
use Rattle.pictures.proofs.Rows.{segmented}
use Rattle.deblocking.specs.Edges.{SameMarks}
use Rattle.deblocking.proofs.Edges.{unpainted}
use Rattle.deblocking.proofs.Locality.{local, within_plane}
use Rattle.rebuild.specs.Rebuilt.{count_of, first_cell, set_from, unfiltered, width_of}
use Rattle.rebuild.specs.Segments.{cell_at, samples_by}
use Rattle.rebuild.proofs.Independence.{intra_samples, own_samples}
use Rattle.calls.specs.Held.{Held}
use Rattle.calls.specs.Questions.{in_grid}
use Rattle.calls.specs.Effects.{age_at, fill_age, fill_sample, filled_picture, missing, picture_closed, segment_rebuilt}
use Rattle.calls.specs.Laws.{coded_intra, in_picture, macroblock_row}
use Rattle.calls.proofs.Places.{cell_in, covered_inside, covers_is, grid_says, plane_says, row_first, row_last, set_cell}
use Rattle.calls.proofs.Sizes.{Sized, some_column}
use Rattle.calls.proofs.Tables.{age_at_lem, filled_at}

-- in a picture of the format's size all the format's places are inside
sized_has : (format : Format) (f : Picture) (p x y : ℕ) → f.wide ≡ columns_of format → f.high ≡ rows_of format → in_picture format p x y ≡ true → has f p x y ≡ true
sized_has format f p x y w h i = rw (w, h) i

-- the rows of a segment
own_rows : (format : Format) (l k r : ℕ) → r < rows_of format → eqb (segment_of_row l r) k ≡ true → (first_row format l k ≤ r) × (r < first_row format l (suc k))
own_rows format l k r h e =
    let t = and_parts _ _ (sym ((segmented format l).between k r h) ∙ e) in
    (leb-true _ _ t.0, ltb-true _ _ t.1)

rows_own : (format : Format) (l k r : ℕ) → first_row format l k ≤ r → r < first_row format l (suc k) → (r < rows_of format) × (eqb (segment_of_row l r) k ≡ true)
rows_own format l k r a b =
    let s = segmented format l in
    let h : r < rows_of format = omega (arith, s.in_picture k) in
    (h, s.between k r h ∙ and_from _ _ (le-leb _ _ a) (lt-ltb _ _ b))

-- where a macroblock of a segment stands among its records
record_below : (format : Format) (l k c r : ℕ) → in_grid format c r ≡ true → eqb (segment_of_row l r) k ≡ true
    → (r - first_row format l k) * columns_of format + c < count_of (segment_at format l k)
record_below format l k c r i e =
    let g = grid_says format c r i in
    let o = own_rows format l k r g.1 e in
    let w : columns_of format - 0 ≡ columns_of format = omega arith in
    rw w (row_last (r - first_row format l k) (first_row format l (suc k) - first_row format l k) (columns_of format) c (omega (arith, o.0, o.1)) g.0)

-- records that are all INTRA code all its macroblocks INTRA
pub coded_intra_lem : (format : Format) (l k : ℕ) (records : List Macroblock) → ((j : ℕ) → j < count_of (segment_at format l k) → intra_at records j ≡ true)
    → (c r : ℕ) → in_grid format c r ≡ true → eqb (segment_of_row l r) k ≡ true → coded_intra format l k records c r ≡ true
unfolding coded_intra
coded_intra_lem format l k records intra c r i e = intra _ (record_below format l k c r i e)

-- what a segment's samples rest on: nothing, where all its records are INTRA, or else the finished pictures at its own places
abbrev pub SameSources : Format → ℕ → ℕ → List Macroblock → Held → Held → Type 0
SameSources format l k records h i =
    ((j : ℕ) → j < count_of (segment_at format l k) → intra_at records j ≡ true)
    ⊎ ((p x y : ℕ) → in_picture format p x y ≡ true → eqb (segment_of_row l (macroblock_row p y)) k ≡ true → h.finished.sample p x y ≡ i.finished.sample p x y)

module _ (format : Format) (meaning : List ℤ → ℕ → ℕ → ℤ) (l k : ℕ) (rounding : Rounding) (records : List Macroblock) (all : length records ≡ count_of (segment_at format l k)) where
  abbrev s : Segment
  s = segment_at format l k

  abbrev made : Held → Held
  made h = segment_rebuilt meaning s rounding records h

  -- the ages that the delivery sets
  own_age : (h : Held) (c r : ℕ) → in_grid format c r ≡ true → (t : Bool) → eqb (segment_of_row l r) k ≡ t
      → cond t (get_or (ages_of records (drop (first_cell s) h.finished_ages)) ((r - first_row format l k) * columns_of format + c) 0) (age_at format h.working_ages c r)
      ≡ cond t (next_age (coded_intra format l k records c r) (age_at format h.finished_ages c r)) (age_at format h.working_ages c r)
  unfolding age_at coded_intra
  own_age h c r i false e = refl
  own_age h c r i true e =
      let j = (r - first_row format l k) * columns_of format + c in
      let g = grid_says format c r i in
      let o = own_rows format l k r g.1 e in
      let w : columns_of format - 0 ≡ columns_of format = omega arith in
      let n : first_row format l k * (columns_of format - 0) + j ≡ r * columns_of format + c
      = ap (λ m. first_row format l k * m + j) w ∙ sym (row_first (first_row format l k) r (columns_of format) c o.0) in
      age_at_lem records (drop (first_cell s) h.finished_ages) j (omega (arith, all, record_below format l k c r i e))
      ∙ ap (next_age (intra_at records j)) (get_or-drop (first_cell s) h.finished_ages j 0 ∙ ap (λ m. get_or h.finished_ages m 0) n)

  pub made_age : (h : Held) → Sized format h → (c r : ℕ) → in_grid format c r ≡ true
      → age_at format (made h).working_ages c r
      ≡ cond (eqb (segment_of_row l r) k) (next_age (coded_intra format l k records c r) (age_at format h.finished_ages c r)) (age_at format h.working_ages c r)
  unfolding age_at segment_rebuilt
  made_age h z c r i =
      set_cell format l k c r (ages_of records (drop (first_cell s) h.finished_ages)) h.working_ages 0 i (ages_length records _ ∙ all) z.working_ages
      ∙ own_age h c r i (eqb (segment_of_row l r) k) refl

  -- it changes no sample of another segment
  pub kept_sample : (h : Held) (p x y : ℕ) → in_picture format p x y ≡ true → eqb (segment_of_row l (macroblock_row p y)) k ≡ false
      → (made h).working.sample p x y ≡ h.working.sample p x y
  unfolding segment_rebuilt
  kept_sample h p x y i e =
      let c = covers_is format l k p x y i ∙ e in
      (local s).outside _ (unfiltered meaning s (rounding_of rounding) h.finished.sample records h.working) p x y c
      ∙ unpainted (covers s) (samples_by meaning s (rounding_of rounding) h.finished.sample records (vectors_of (width_of s) records) (cell_at s)) h.working p x y c

  -- the marks of the segment are those of its records
  own_marks : (marks marks' : List (Option ℕ)) → length marks ≡ columns_of format * rows_of format → length marks' ≡ columns_of format * rows_of format
      → SameMarks (columns_of format) s (set_from (first_cell s) (marks_of records) marks) (set_from (first_cell s) (marks_of records) marks')
  unfolding in_grid
  own_marks marks marks' e f column row a b c d =
      let o = rows_own format l k row c d in
      let i : in_grid format column row ≡ true = and_from _ _ (lt-ltb _ _ b) (lt-ltb _ _ o.0) in
      let n = marks_length records ∙ all in
      set_cell format l k column row (marks_of records) marks None i n e
      ∙ (cond-true _ _ _ o.1 ∙ sym (cond-true _ _ _ o.1))
      ∙ sym (set_cell format l k column row (marks_of records) marks' None i n f)

  -- its own samples rest on nothing else
  module _ (h i : Held) (z : Sized format h) (z' : Sized format i) (number : k < segment_count format l) (agree : SameSources format l k records h i) where
    same_new : SameSources format l k records h i → (p x y : ℕ) → ltb p 3 ≡ true → covers s p x y ≡ true
        → samples_by meaning s (rounding_of rounding) h.finished.sample records (vectors_of (width_of s) records) (cell_at s) p x y
        ≡ samples_by meaning s (rounding_of rounding) i.finished.sample records (vectors_of (width_of s) records) (cell_at s) p x y
    same_new (inl intra) p x y e c = intra_samples meaning s (rounding_of rounding) h.finished.sample i.finished.sample records _ intra p x y c
    same_new (inr same) p x y e c =
        own_samples s (some_column format) ((segmented format l).some_row k number) h.finished.sample i.finished.sample p
        (λ u v d. let n = covered_inside format l k p u v e d in same p u v n (sym (covers_is format l k p u v n) ∙ d))
        meaning (rounding_of rounding) records _ x y c

    same_painted : (p x y : ℕ) → ltb p 3 ≡ true → covers s p x y ≡ true
        → (unfiltered meaning s (rounding_of rounding) h.finished.sample records h.working).sample p x y
        ≡ (unfiltered meaning s (rounding_of rounding) i.finished.sample records i.working).sample p x y
    same_painted p x y e c =
        let n = covered_inside format l k p x y e c in
        cond-true _ _ _ (and_from _ _ (sized_has format h.working p x y z.working_wide z.working_high n) c)
        ∙ same_new agree p x y e c
        ∙ sym (cond-true _ _ _ (and_from _ _ (sized_has format i.working p x y z'.working_wide z'.working_high n) c))

    pub own_sample : (p x y : ℕ) → in_picture format p x y ≡ true → eqb (segment_of_row l (macroblock_row p y)) k ≡ true
        → (made h).working.sample p x y ≡ (made i).working.sample p x y
    unfolding segment_rebuilt
    own_sample p x y n e =
        within_plane s _ _ (unfiltered meaning s (rounding_of rounding) h.finished.sample records h.working)
        (unfiltered meaning s (rounding_of rounding) i.finished.sample records i.working)
        (z.working_wide ∙ sym z'.working_wide) (z.working_high ∙ sym z'.working_high)
        (subst (λ m. SameMarks m s (set_from (first_cell s) (marks_of records) h.marks) (set_from (first_cell s) (marks_of records) i.marks))
        (sym z.working_wide) (own_marks h.marks i.marks z.marks z'.marks))
        p (λ u v c. same_painted p u v (plane_says format p x y n) c) x y (covers_is format l k p x y n ∙ e)

-- closing
not_cond : {X : Type 0} (b : Bool) (x y : X) → cond (not b) x y ≡ cond b y x
not_cond true x y = refl
not_cond false x y = refl

module _ (format : Format) (kind : PictureKind) (l accepted : ℕ) (h : Held) (z : Sized format h) where
  pub closed_sample : (p x y : ℕ) → in_picture format p x y ≡ true
      → (picture_closed format kind l accepted h).finished.sample p x y
      ≡ cond (has_bit accepted (segment_of_row l (macroblock_row p y))) (h.working.sample p x y) (fill_sample kind h.finished p x y)
  unfolding picture_closed filled_picture missing
  closed_sample p x y i =
      ap (λ b. cond (b && not (has_bit accepted (segment_of_row l (macroblock_row p y)))) (fill_sample kind h.finished p x y) (h.working.sample p x y))
      (sized_has format h.working p x y z.working_wide z.working_high i)
      ∙ not_cond (has_bit accepted (segment_of_row l (macroblock_row p y))) _ _

  pub closed_age : (c r : ℕ) → in_grid format c r ≡ true
      → age_at format (picture_closed format kind l accepted h).finished_ages c r
      ≡ cond (has_bit accepted (segment_of_row l r)) (age_at format h.working_ages c r) (fill_age kind (age_at format h.finished_ages c r))
  unfolding picture_closed age_at missing
  closed_age c r i =
      let n = cell_in format c r i in
      let m : 0 + (r * columns_of format + c) ≡ r * columns_of format + c = omega arith in
      let e : (0 + (r * columns_of format + c)) / columns_of format ≡ r = ap (λ j. j / columns_of format) m ∙ div-mul-add r (columns_of format) c (grid_says format c r i).0 in
      filled_at (λ j. missing l accepted (j / columns_of format)) kind 0 h.finished_ages h.working_ages (r * columns_of format + c)
      (omega (arith, z.finished_ages)) (omega (arith, z.working_ages))
      ∙ ap (λ j. cond (not (has_bit accepted (segment_of_row l j))) (fill_age kind (get_or h.finished_ages (r * columns_of format + c) 0)) (get_or h.working_ages (r * columns_of format + c) 0)) e
      ∙ not_cond (has_bit accepted (segment_of_row l r)) _ _
