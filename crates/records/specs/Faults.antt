-- Every fault of reading, told as a refusal: its number, layer, word, macroblock and block.
use Rattle.std.specs.Prelude.{ℕ}
use Rattle.records.specs.declared.faults.Place.{Place}
use Rattle.records.specs.declared.faults.Layer.{Layer}
use Rattle.records.specs.declared.faults.Layer.TheVariants as layer
use Rattle.records.specs.declared.faults.Refusal.{Refusal}
use Rattle.records.specs.declared.faults.WordFault.{WordFault}
use Rattle.records.specs.declared.faults.WordFault.TheVariants as words
use Rattle.records.specs.declared.faults.BlockFault.{BlockFault}
use Rattle.records.specs.declared.faults.BlockFault.TheVariants as block
use Rattle.records.specs.declared.faults.MacroblockFault.{MacroblockFault}
use Rattle.records.specs.declared.faults.MacroblockFault.TheVariants as macroblock
use Rattle.records.specs.declared.faults.SegmentFault.{SegmentFault}
use Rattle.records.specs.declared.faults.SegmentFault.TheVariants as segment

-- a refusal at a place
abbrev pub placed : ℕ → Layer → Place → Refusal
placed n l p = record { number = n; layer = l; word = p.word; macroblock = p.macroblock; block = p.block }

abbrev pub word_refusal : WordFault → Refusal
word_refusal words.ByteCount = record { number = 9; layer = layer.Words; word = 0; macroblock = 0; block = 6 }
word_refusal (words.Missing p) = placed 10 layer.Words p
word_refusal (words.Kind p) = placed 11 layer.Words p
word_refusal (words.Unnamed p) = placed 12 layer.Words p

abbrev pub block_refusal : BlockFault → Refusal
block_refusal (block.Word f) = word_refusal f
block_refusal (block.Number p) = placed 14 layer.Block p
block_refusal (block.Level p) = placed 15 layer.Block p
block_refusal (block.Position p) = placed 16 layer.Block p

abbrev pub macroblock_refusal : MacroblockFault → Refusal
macroblock_refusal (macroblock.Word f) = word_refusal f
macroblock_refusal (macroblock.Block f) = block_refusal f
macroblock_refusal (macroblock.Head p) = placed 13 layer.Macroblock p

abbrev pub segment_refusal : SegmentFault → Refusal
segment_refusal (segment.Word f) = word_refusal f
segment_refusal (segment.Macroblock f) = macroblock_refusal f
segment_refusal (segment.LeftOver p) = placed 17 layer.Segment p
