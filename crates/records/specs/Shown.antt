-- Refusals as text.
use Rattle.std.specs.Prelude.{ℕ, List, ◌++◌, codes, decimal}
use Rattle.records.specs.declared.faults.Layer.{Layer}
use Rattle.records.specs.declared.faults.Layer.TheVariants.{Picture, Words, Macroblock, Block, Segment}
use Rattle.records.specs.declared.faults.Refusal.{Refusal}

abbrev pub layer_text : Layer → List ℕ
layer_text Picture = codes "picture"
layer_text Words = codes "words"
layer_text Macroblock = codes "macroblock"
layer_text Block = codes "block"
layer_text Segment = codes "segment"

abbrev pub refusal_text : Refusal → List ℕ
refusal_text r =
    decimal r.number ++ (codes " " ++ (layer_text r.layer ++ (codes " " ++ (decimal r.word ++ (codes " " ++ (decimal r.macroblock ++ (codes " " ++ decimal r.block)))))))
