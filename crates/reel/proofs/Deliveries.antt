-- What is known of a delivery, by the answer to its questions.
use Rattle.std.proofs.Common.{◌≡◌, ℕ, ◌<◌, true, List, ℤ, is_ok, Ok, Err, Result, sym, refl, ap, ◌∙◌, arith}
use Rattle.records.specs.declared.types.Delivered.{Delivered}
use Rattle.records.specs.declared.types.Macroblock.{Macroblock}
use Rattle.records.specs.Deliveries.{delivered_of, read}
use Rattle.pictures.specs.Segments.{segment_count}
use Rattle.rebuild.specs.Rebuilt.{delivery_records}
use Rattle.rebuild.proofs.Cells.{delivery_records_are}
use Rattle.calls.specs.declared.faults.PictureFault.{PictureFault}
use Rattle.calls.specs.Held.{Held, fits}
use Rattle.calls.specs.Questions.{macroblocks_in}
use Rattle.calls.specs.Runs.{all_fit, control, open_to, setting_of, when_read}
use Rattle.calls.specs.declared.answers.Call.TheVariants.{Deliver as delivering}
use Rattle.calls.proofs.Sizes.{same_setting}
use Rattle.calls.proofs.Verdicts.{delivery_passed}
use Rattle.reel.specs.declared.reels.Slip.{Slip}
use Rattle.reel.specs.Calls.{delivery_answered, held_after, judged}

-- the counts come from the questions
counts_from : (bytes : List ℕ) (v : Result (List Macroblock) PictureFault) (counts : Delivered) → Ok counts ≡ delivery_answered bytes v
    → (records : List Macroblock) × ((v ≡ Ok records) × (counts ≡ delivered_of bytes records))
counts_from bytes (Ok records) counts e = (records, (refl, cc))
counts_from bytes (Err g) counts e = absurd (let z : ◌≡◌ {A = ℕ} 0 1 = cc in omega arith)

module _ (slip : Slip) (held : Held) (segment : ℕ) (bytes : List ℕ) where
  pub record Granted (counts : Delivered) : Type 0 where
    pub fitting : fits slip.reel.format held ≡ true
    pub numbered : segment < segment_count slip.reel.format slip.layout
    pub readable : is_ok (read slip.kind (macroblocks_in slip.reel.format slip.layout segment) bytes) ≡ true
    pub judgement : judged slip held segment bytes ≡ Ok (delivery_records slip.kind (macroblocks_in slip.reel.format slip.layout segment) bytes)
    pub counts_are : counts ≡ delivered_of bytes (delivery_records slip.kind (macroblocks_in slip.reel.format slip.layout segment) bytes)

  pub delivery_granted : (counts : Delivered) → Ok counts ≡ delivery_answered bytes (judged slip held segment bytes) → Granted counts
  delivery_granted counts d =
      let g = counts_from bytes (judged slip held segment bytes) counts d in
      let t = delivery_passed (fits slip.reel.format held) slip.reel.format slip.kind slip.layout slip.accepted segment bytes g.0 g.1.0 in
      let r : delivery_records slip.kind (macroblocks_in slip.reel.format slip.layout segment) bytes ≡ g.0 = delivery_records_are slip.kind _ bytes g.0 t.was_read in
      record {
        fitting = t.fits;
        numbered = t.segments;
        readable = ap is_ok t.was_read;
        judgement = g.1.0 ∙ ap Ok (sym r);
        counts_are = g.1.1 ∙ ap (delivered_of bytes) (sym r);
      }

-- a delivery changes no size
held_as_run : (meaning : List ℤ → ℕ → ℕ → ℤ) (slip : Slip) (held : Held) (segment : ℕ) (v : Result (List Macroblock) PictureFault)
    → held_after meaning slip segment v held
    ≡ (when_read (setting_of slip.reel.format meaning held) slip.rounding slip.layout segment v (record { accepted = slip.accepted; held = held })).held
held_as_run meaning slip held segment (Ok records) = refl
held_as_run meaning slip held segment (Err f) = refl

pub size_delivered : (meaning : List ℤ → ℕ → ℕ → ℤ) (slip : Slip) (held : Held) (segment : ℕ) (bytes : List ℕ)
    → fits slip.reel.format (held_after meaning slip segment (judged slip held segment bytes) held) ≡ fits slip.reel.format held
size_delivered meaning slip held segment bytes =
    let w = setting_of slip.reel.format meaning held in
    ap (fits slip.reel.format) (held_as_run meaning slip held segment (judged slip held segment bytes))
    ∙ ap all_fit (same_setting w (control slip.reel.pictures slip.reel.finished (open_to slip.kind slip.rounding slip.layout)) (record { accepted = slip.accepted; held = held }) (delivering segment bytes) refl)
