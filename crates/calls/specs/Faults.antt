-- Every fault of a call, told as a refusal: its number, layer, word, macroblock and block.
use Rattle.std.specs.Prelude.{ℕ}
use Rattle.records.specs.declared.faults.Layer.TheVariants as layer
use Rattle.records.specs.declared.faults.Refusal.{Refusal}
use Rattle.records.specs.Faults.{segment_refusal}
use Rattle.calls.specs.declared.faults.PictureFault.{PictureFault}
use Rattle.calls.specs.declared.faults.PictureFault.TheVariants as picture

-- a refusal of the picture layer concerns no word
abbrev pub plainly : ℕ → Refusal
plainly n = record { number = n; layer = layer.Picture; word = 0; macroblock = 0; block = 6 }

abbrev pub picture_refusal : PictureFault → Refusal
picture_refusal picture.Format = plainly 1
picture_refusal picture.Size = plainly 2
picture_refusal picture.Limit = plainly 3
picture_refusal picture.Kind = plainly 4
picture_refusal picture.Unfinished = plainly 5
picture_refusal picture.Layout = plainly 6
picture_refusal picture.Number = plainly 7
picture_refusal picture.Repeated = plainly 8
picture_refusal picture.Outside = plainly 18
picture_refusal (picture.Segment f) = segment_refusal f
