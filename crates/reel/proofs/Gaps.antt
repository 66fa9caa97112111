-- The places of a picture by the segments that they lie in, segment after segment.
use Rattle.std.proofs.Common.{◌≡◌, ℕ, ◌+◌, ◌/◌, ◌≤◌, Bool, true, false, not, ◌&&◌, ◌||◌, eqb, ltb, sym, refl, ap, ◌∙◌, arith}
use Rattle.std.proofs.lemmas.Bool.{eqb-true, lt-ltb}
use Rattle.std.proofs.lemmas.Bool.Decides.{nat_tests}
use Rattle.pictures.specs.declared.formats.Format.{Format}
use Rattle.pictures.specs.Formats.{columns_of, rows_of}
use Rattle.pictures.specs.Pictures.{Picture, covers, inside, painted, side}
use Rattle.pictures.specs.Segments.{has_bit, segment_at, segment_count, segment_of_row}
use Rattle.pictures.proofs.Painting.{alike, both}
use Rattle.pictures.proofs.Rows.{segmented}
use Rattle.calls.proofs.Places.{covers_is, row_below}
use Rattle.calls.specs.Effects.{missing}

module _ (format : Format) (layout accepted : ℕ) where
  -- the missing places in the segments below a number
  abbrev pub missing_below : ℕ → ℕ → ℕ → ℕ → Bool
  missing_below n q u v = ltb (segment_of_row layout (v / side q)) n && missing layout accepted (v / side q)

  missing_in : ℕ → ℕ → ℕ → ℕ → Bool
  missing_in n q u v = eqb (segment_of_row layout (v / side q)) n && missing layout accepted (v / side q)

  one_more : (s n : ℕ) (m : Bool) → (ltb s (n + 1) && m) ≡ ((eqb s n && m) || (ltb s n && m))
  one_more s n true = grind (arith, nat_tests)
  one_more s n false = grind (arith, nat_tests)

  own_missing : (n q v : ℕ) (b : Bool) → eqb (segment_of_row layout (v / side q)) n ≡ b → (not (has_bit accepted n) && b) ≡ (b && missing layout accepted (v / side q))
  unfolding missing
  own_missing n q v true e = let i : segment_of_row layout (v / side q) ≡ n = eqb-true _ n e in rw i (and_true (not (has_bit accepted n)))
    where
      and_true : (t : Bool) → (t && true) ≡ t
      and_true true = refl
      and_true false = refl
  own_missing n q v false e = and_false (not (has_bit accepted n))
    where
      and_false : (t : Bool) → (t && false) ≡ false
      and_false true = refl
      and_false false = refl

  -- one segment more was filled, if it is missing
  pub fill_more : (n : ℕ) (new : ℕ → ℕ → ℕ → ℕ) (f f₁ f₂ : Picture) → f.wide ≡ columns_of format → f.high ≡ rows_of format
      → f₁ ≡ painted (missing_below n) new f → f₂ ≡ painted (λ q u v. not (has_bit accepted n) && covers (segment_at format layout n) q u v) new f₁
      → f₂ ≡ painted (missing_below (n + 1)) new f
  unfolding missing_in
  fill_more n new f f₁ f₂ w h was now =
      both (missing_below n) (missing_in n) (missing_below (n + 1)) new f f₁ f₂ was
      (now ∙ alike _ (missing_in n) new f₁ (λ q u v e.
      let i : inside (columns_of format) (rows_of format) q u v ≡ true = sym (ap (λ (g : Picture). inside g.wide g.high q u v) was ∙ rw (w, h) refl) ∙ e in
      ap (λ b. not (has_bit accepted n) && b) (covers_is format layout n q u v i) ∙ own_missing n q v _ refl))
      (λ q u v. one_more (segment_of_row layout (v / side q)) n (missing layout accepted (v / side q)))

  -- all were
  pub fill_all : (n : ℕ) (new : ℕ → ℕ → ℕ → ℕ) (f : Picture) → f.wide ≡ columns_of format → f.high ≡ rows_of format → segment_count format layout ≤ n
      → painted (missing_below n) new f ≡ painted (λ q u v. missing layout accepted (v / side q)) new f
  fill_all n new f w h l =
      alike _ _ new f (λ q u v e.
      let i : inside (columns_of format) (rows_of format) q u v ≡ true = sym (rw (w, h) refl) ∙ e in
      let s = (segmented format layout).below_count (v / side q) (row_below format q u v i) in
      ap (λ b. b && missing layout accepted (v / side q)) (lt-ltb _ n (omega arith)))
