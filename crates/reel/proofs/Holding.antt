-- What a memory holds, part by part.
use Rattle.std.proofs.Common.{◌≡◌, ℕ, List, drop, ℤ, Option, sym, ap, ◌∙◌}
use Rattle.records.specs.declared.types.Macroblock.{Macroblock}
use Rattle.samples.specs.declared.prediction.Rounding.{Rounding}
use Rattle.samples.specs.Prediction.{rounding_of}
use Rattle.motion.specs.declared.vectors.Vector.{Vector}
use Rattle.motion.specs.Cells.{ages_of, marks_of}
use Rattle.motion.specs.Vectors.{vectors_of}
use Rattle.pictures.specs.declared.layouts.Segment.{Segment}
use Rattle.rebuild.specs.Rebuilt.{first_cell, rebuilt, set_from, width_of}
use Rattle.calls.specs.Held.{Held}
use Rattle.pictures.specs.declared.formats.Format.{Format}
use Rattle.pictures.specs.Pictures.{Picture}
use Rattle.records.specs.declared.types.PictureKind.{PictureKind}
use Rattle.calls.specs.Effects.{filled_ages, filled_picture, picture_closed, segment_rebuilt}
use Rattle.calls.proofs.Sizes.{Sized}

-- two that hold the same parts hold the same
pub same_held : (h i : Held) → h.finished ≡ i.finished → h.working ≡ i.working → h.finished_ages ≡ i.finished_ages → h.working_ages ≡ i.working_ages
    → h.vectors ≡ i.vectors → h.marks ≡ i.marks → h ≡ i
same_held h i a b c d e f = λ t. record { finished = a t; working = b t; finished_ages = c t; working_ages = d t; vectors = e t; marks = f t }

-- a memory i that has a segment's parts set, each from the slice that was lent of a table of h, is h with the segment rebuilt
module _ (meaning : List ℤ → ℕ → ℕ → ℤ) (s : Segment) (rounding : Rounding) (records : List Macroblock) (h i : Held)
    (finished ages : List ℕ) (vectors : List Vector) (marks : List (Option ℕ)) (ages' : List ℕ) (vectors' : List Vector) (marks' : List (Option ℕ)) where
  pub rebuilt_held : finished ≡ h.finished_ages → ages ≡ h.working_ages → vectors ≡ h.vectors → marks ≡ h.marks
      → ages' ≡ set_from (first_cell s) (ages_of records (drop (first_cell s) finished)) ages → vectors' ≡ set_from (first_cell s) (vectors_of (width_of s) records) vectors
      → marks' ≡ set_from (first_cell s) (marks_of records) marks
      → i.finished ≡ h.finished → i.working ≡ rebuilt meaning s (rounding_of rounding) h.finished.sample records marks' h.working
      → i.finished_ages ≡ h.finished_ages → i.working_ages ≡ ages' → i.vectors ≡ vectors' → i.marks ≡ marks'
      → i ≡ segment_rebuilt meaning s rounding records h
  unfolding segment_rebuilt
  rebuilt_held f a v m a' v' m' if iw ifa iwa iv im =
      let marked : marks' ≡ set_from (first_cell s) (marks_of records) h.marks = m' ∙ ap (set_from (first_cell s) (marks_of records)) m in
      same_held _ _ if (iw ∙ ap (λ x. rebuilt meaning s (rounding_of rounding) h.finished.sample records x h.working) marked) ifa
      (iwa ∙ a' ∙ ap (λ x. set_from (first_cell s) (ages_of records (drop (first_cell s) x)) ages) f ∙ ap (set_from (first_cell s) (ages_of records (drop (first_cell s) h.finished_ages))) a)
      (iv ∙ v' ∙ ap (set_from (first_cell s) (vectors_of (width_of s) records)) v)
      (im ∙ marked)

-- a memory i that has what h lacks filled, and then copied, is h after the closing
module _ (format : Format) (kind : PictureKind) (layout accepted : ℕ) (h i : Held) (size : Sized format h) where
  pub closed_held : i.working ≡ filled_picture kind layout accepted h.finished h.working
      → (i.working.wide ≡ h.finished.wide → i.working.high ≡ h.finished.high → i.finished ≡ i.working)
      → i.working_ages ≡ filled_ages format kind layout accepted h.finished_ages h.working_ages → i.finished_ages ≡ i.working_ages
      → i.vectors ≡ h.vectors → i.marks ≡ h.marks
      → i ≡ picture_closed format kind layout accepted h
  unfolding picture_closed filled_picture
  closed_held w c a b v m =
      let wide : i.working.wide ≡ h.finished.wide = ap (λ (f : Picture). f.wide) w ∙ size.working_wide ∙ sym size.finished_wide in
      let high : i.working.high ≡ h.finished.high = ap (λ (f : Picture). f.high) w ∙ size.working_high ∙ sym size.finished_high in
      same_held _ _ (c wide high ∙ w) w (b ∙ a) a v m
