-- What the calls answer and hand on, by the outcome of their questions.
use Rattle.std.specs.Prelude.{ℕ, ◌+◌, ◌^◌, Bool, false, not, ◌&&◌, List, ℤ, Some, None, Ok, Err, Option, Result, bit_or, ◌==◌}
use Rattle.records.specs.declared.types.Delivered.{Delivered}
use Rattle.records.specs.declared.types.Macroblock.{Macroblock}
use Rattle.records.specs.Deliveries.{delivered_of}
use Rattle.records.specs.declared.types.PictureKind.{PictureKind}
use Rattle.records.specs.declared.types.PictureKind.TheVariants as picture
use Rattle.records.specs.Reading.{and_then, ask}
use Rattle.samples.specs.declared.prediction.Rounding.{Rounding}
use Rattle.pictures.specs.declared.formats.Format.{Format}
use Rattle.pictures.specs.Pictures.{Picture, covers}
use Rattle.pictures.specs.Segments.{has_bit, segment_at, segment_count, sound}
use Rattle.calls.specs.declared.faults.PictureFault.{PictureFault}
use Rattle.calls.specs.declared.faults.PictureFault.TheVariants as fault
use Rattle.calls.specs.Held.{Held, fits, fits_store, fits_table}
use Rattle.calls.specs.Questions.{judge_age, judge_delivery, judge_sample, kind_of, passed, rounding_from, sound_kind}
use Rattle.calls.specs.Effects.{age_at, picture_closed, segment_rebuilt}
use Rattle.reel.specs.declared.reels.Reel.{Reel}
use Rattle.reel.specs.declared.reels.Slip.{Slip}

-- a new reel has opened no picture and finished none
abbrev pub new_reel : Option Format → Result Reel PictureFault
new_reel (Some format) = Ok (record { format = format; pictures = 0; finished = None })
new_reel None = Err fault.Format

-- the kind and the rounding that two numbers stand for
abbrev pub kind_read : ℕ → ℕ → Result (PictureKind × Rounding) PictureFault
kind_read kind rounding = ask (sound_kind kind rounding) fault.Kind (Ok (kind_of kind, rounding_from rounding))

-- the questions put to a layout
abbrev pub judge_layout : Format → Option ℕ → PictureKind → ℕ → Result (Unit {0}) PictureFault
judge_layout format finished picture.Intra layout = ask (sound format layout) fault.Layout passed
judge_layout format None picture.Inter layout = Err fault.Unfinished
judge_layout format (Some own) picture.Inter layout = ask (own == layout) fault.Layout passed

-- the kind and the rounding of a picture that may be opened
abbrev pub opened_kind : ℕ → ℕ → Result (Unit {0}) PictureFault → Result (PictureKind × Rounding) PictureFault
opened_kind kind rounding (Ok _) = Ok (kind_of kind, rounding_from rounding)
opened_kind kind rounding (Err f) = Err f

-- an opening counts one picture more; a refusal hands the reel back
abbrev pub opened : Reel → ℕ → ℕ → ℕ → Result (Unit {0}) PictureFault → Result (Slip × ℕ) (Reel × PictureFault)
opened reel kind rounding layout (Ok _) =
    Ok (
      record {
        reel = record { format = reel.format; pictures = reel.pictures + 1; finished = reel.finished };
        kind = kind_of kind;
        rounding = rounding_from rounding;
        layout = layout;
        accepted = 0;
        spent = false;
      },
      segment_count reel.format layout,
    )
opened reel kind rounding layout (Err f) = Err (reel, f)

-- the questions put to a delivery on a slip
abbrev pub judged : Slip → Held → ℕ → List ℕ → Result (List Macroblock) PictureFault
judged slip held segment bytes = judge_delivery (fits slip.reel.format held) slip.reel.format slip.kind slip.layout slip.accepted segment bytes

-- the slip with a segment accepted
abbrev pub marked : Slip → ℕ → Slip
marked slip segment =
    record {
      reel = slip.reel;
      kind = slip.kind;
      rounding = slip.rounding;
      layout = slip.layout;
      accepted = bit_or slip.accepted (2 ^ segment);
      spent = slip.spent;
    }

-- a delivery hands the slip back, with the segment's bit where it was accepted
abbrev pub slip_after : Slip → ℕ → Result (List Macroblock) PictureFault → Slip
slip_after slip segment (Ok records) = marked slip segment
slip_after slip segment (Err f) = slip

-- it is answered the counts of its words and of its INTRA macroblocks
abbrev pub delivery_answered : List ℕ → Result (List Macroblock) PictureFault → Result Delivered PictureFault
delivery_answered bytes read = and_then (λ f. f) read (λ records. Ok (delivered_of bytes records))

-- and it rebuilds its segment, or changes nothing
abbrev pub held_after : (List ℤ → ℕ → ℕ → ℤ) → Slip → ℕ → Result (List Macroblock) PictureFault → Held → Held
held_after meaning slip segment (Ok records) held =
    segment_rebuilt meaning (segment_at slip.reel.format slip.layout segment) slip.rounding records held
held_after meaning slip segment (Err f) held = held

-- the places of a segment that was not accepted; one that was has none
abbrev pub gap_at : Slip → ℕ → ℕ → ℕ → ℕ → Bool
gap_at slip number = λ q u v. not (has_bit slip.accepted number) && covers (segment_at slip.reel.format slip.layout number) q u v

-- closing gives the resting reel, whose finished picture is the one that was open, and the marks; a refusal hands the slip back
abbrev pub closed : Slip → Result (Unit {0}) PictureFault → Result (Reel × ℕ) (Slip × PictureFault)
closed slip (Ok _) = Ok (record { format = slip.reel.format; pictures = slip.reel.pictures; finished = Some slip.layout }, slip.accepted)
closed slip (Err f) = Err (slip, f)

abbrev pub held_closed : Slip → Result (Unit {0}) PictureFault → Held → Held
held_closed slip (Ok _) held = picture_closed slip.reel.format slip.kind slip.layout slip.accepted held
held_closed slip (Err f) held = held

-- a question is answered the value that it asks for
abbrev pub value_or_fault : Result (Unit {0}) PictureFault → ℕ → Result ℕ PictureFault
value_or_fault (Ok _) value = Ok value
value_or_fault (Err f) value = Err f

-- a sample of the finished picture, and an age of it
abbrev pub sample_of : Reel → Picture → ℕ → ℕ → ℕ → Result ℕ PictureFault
sample_of reel f plane across down = value_or_fault (judge_sample (fits_store reel.format f) reel.format reel.finished plane across down) (f.sample plane across down)

abbrev pub age_of : Reel → List ℕ → ℕ → ℕ → Result ℕ PictureFault
age_of reel ages column row = value_or_fault (judge_age (fits_table reel.format ages) reel.format reel.finished column row) (age_at reel.format ages column row)
