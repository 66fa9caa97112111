-- A macroblock's record as text.
use Rattle.std.specs.Prelude.{ℕ, ◌-◌, false, List, ◌++◌, length, replicate, codes, decimal}
use Rattle.std.specs.Fmt.{digits, signed_decimal}
use Rattle.std.specs.List.{flat_map}
use Rattle.std.specs.Option.{unwrap_or}
use Rattle.records.specs.declared.types.Block.{Block}
use Rattle.records.specs.declared.types.Difference.{Difference}
use Rattle.records.specs.declared.types.Macroblock.{Macroblock}
use Rattle.records.specs.declared.types.Macroblock.TheVariants.{Skipped, Inter, Intra}
use Rattle.script.specs.Shown.{coefficients_in}

-- the pattern's six bits, that of block 0 first, with zeros (48) before the first 1
abbrev pub six_bits : ℕ → List ℕ
six_bits n = replicate (6 - length (digits 2 false n)) 48 ++ digits 2 false n

abbrev pub dc_text : Block → List ℕ
dc_text block = codes " " ++ decimal (unwrap_or block.dc 0)

-- the codes of the first coefficients, each after a space
abbrev pub dcs_text : List Block → List ℕ
dcs_text blocks = flat_map dc_text blocks

-- what the line of every one has that is not skipped
abbrev pub coded_text : ℕ → ℕ → List ℕ
coded_text quantizer pattern = codes "quantizer " ++ (decimal quantizer ++ (codes " pattern " ++ six_bits pattern))

abbrev pub difference_text : Difference → List ℕ
difference_text d = signed_decimal d.horizontal ++ (codes " " ++ signed_decimal d.vertical)

abbrev pub macroblock_text : Macroblock → List ℕ
macroblock_text Skipped = codes "skipped"
macroblock_text (Inter quantizer pattern difference blocks) =
    codes "INTER " ++ (coded_text quantizer pattern ++ (codes " vector " ++ (difference_text difference
    ++ (codes " coefficients " ++ decimal (coefficients_in blocks)))))
macroblock_text (Intra quantizer pattern blocks) =
    codes "INTRA " ++ (coded_text quantizer pattern ++ (codes " dc" ++ (dcs_text blocks ++ (codes " coefficients " ++ decimal (coefficients_in blocks)))))

-- with its index in the delivery
abbrev pub numbered_text : ℕ → Macroblock → List ℕ
numbered_text index m = codes "macroblock " ++ (decimal index ++ (codes " " ++ macroblock_text m))
