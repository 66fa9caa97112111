-- The questions put to each call, in their order; the first no is the fault. Questions about a delivery's words are those of its reading.
use Rattle.std.specs.Prelude.{ℕ, Bool, true, false, cond, not, ◌&&◌, ◌||◌, List, Some, None, Ok, Option, Result, ◌==◌, nat_lt}
use Rattle.records.specs.declared.types.Macroblock.{Macroblock}
use Rattle.records.specs.declared.types.PictureKind.{PictureKind}
use Rattle.records.specs.declared.types.PictureKind.TheVariants as picture
use Rattle.records.specs.Deliveries.{read}
use Rattle.records.specs.Reading.{and_then, ask}
use Rattle.samples.specs.declared.prediction.Rounding.{Rounding}
use Rattle.samples.specs.declared.prediction.Rounding.TheVariants.{Up, Down}
use Rattle.pictures.specs.declared.formats.Format.{Format}
use Rattle.pictures.specs.Formats.{columns_of, rows_of}
use Rattle.pictures.specs.Pictures.{inside}
use Rattle.pictures.specs.Segments.{has_bit, segment_at, segment_count, sound}
use Rattle.rebuild.specs.Rebuilt.{count_of}
use Rattle.calls.specs.declared.faults.PictureFault.{PictureFault}
use Rattle.calls.specs.declared.faults.PictureFault.TheVariants as fault

abbrev pub passed : Result (Unit {0}) PictureFault
passed = Ok tt

-- the kind that a number stands for: 0 is INTRA, 1 INTER
abbrev pub kind_of : ℕ → PictureKind
kind_of n = cond (n == 0) picture.Intra picture.Inter

-- the rounding that a number stands for: 0 rounds halves up, 1 down
abbrev pub rounding_from : ℕ → Rounding
rounding_from n = cond (n == 0) Up Down

-- kind and rounding are each 0 or 1, and rounding is 0 for INTRA
abbrev pub sound_kind : ℕ → ℕ → Bool
sound_kind kind rounding = nat_lt kind 2 && (nat_lt rounding 2 && (not (kind == 0) || rounding == 0))

-- there is a finished picture; it has this layout
abbrev pub is_finished : Option ℕ → Bool
is_finished None = false
is_finished (Some layout) = true

abbrev pub has_layout : Option ℕ → ℕ → Bool
has_layout None layout = false
has_layout (Some own) layout = own == layout

-- an INTRA picture has a sound layout, an INTER picture that of the finished one
abbrev pub fits_layout : Format → Option ℕ → ℕ → ℕ → Bool
fits_layout format finished kind layout = cond (kind == 0) (sound format layout) (has_layout finished layout)

-- Opening, where so many pictures were opened and the finished picture, if there is one, has a layout.
abbrev pub judge_opening : Bool → Format → ℕ → Option ℕ → ℕ → ℕ → ℕ → Result (Unit {0}) PictureFault
judge_opening sized format pictures finished kind rounding layout =
    ask sized fault.Size
    (ask (nat_lt pictures 60000) fault.Limit
    (ask (sound_kind kind rounding) fault.Kind
    (ask (kind == 0 || is_finished finished) fault.Unfinished
    (ask (fits_layout format finished kind layout) fault.Layout passed))))

-- how many macroblocks a segment has
abbrev pub macroblocks_in : Format → ℕ → ℕ → ℕ
macroblocks_in format layout segment = count_of (segment_at format layout segment)

-- Delivering into a picture of a kind and a layout, where the accepted segments have their bits: the records, or the fault.
abbrev pub judge_delivery : Bool → Format → PictureKind → ℕ → ℕ → ℕ → List ℕ → Result (List Macroblock) PictureFault
judge_delivery sized format kind layout accepted segment bytes =
    ask sized fault.Size
    (ask (nat_lt segment (segment_count format layout)) fault.Number
    (ask (not (has_bit accepted segment)) fault.Repeated
    (and_then fault.Segment (read kind (macroblocks_in format layout segment) bytes) Ok)))

-- Closing.
abbrev pub judge_closing : Bool → Result (Unit {0}) PictureFault
judge_closing sized = ask sized fault.Size passed

-- Asking for a sample, and for an age.
abbrev pub judge_sample : Bool → Format → Option ℕ → ℕ → ℕ → ℕ → Result (Unit {0}) PictureFault
judge_sample sized format finished plane across down =
    ask sized fault.Size
    (ask (is_finished finished) fault.Unfinished
    (ask (inside (columns_of format) (rows_of format) plane across down) fault.Outside passed))

unfoldable pub in_grid : Format → ℕ → ℕ → Bool
in_grid format column row = nat_lt column (columns_of format) && nat_lt row (rows_of format)

abbrev pub judge_age : Bool → Format → Option ℕ → ℕ → ℕ → Result (Unit {0}) PictureFault
judge_age sized format finished column row =
    ask sized fault.Size
    (ask (is_finished finished) fault.Unfinished
    (ask (in_grid format column row) fault.Outside passed))
