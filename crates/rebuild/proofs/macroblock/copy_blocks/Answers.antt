use Rattle.std.proofs.Common.{◌∙◌, arith}
use Rattle.rebuild.proofs.Sixths.{all_painted, block_painted, no_block_painted}
use Rattle.rebuild.proofs.macroblock.copy_blocks.Goals as goal

pub loop-block-init : goal.loop-block-init
loop-block-init g c = no_block_painted _ _ _ _

pub loop-block-preserved : goal.loop-block-preserved
loop-block-preserved g c =
    let place = c.block.ensures in
    block_painted c.args.place.column c.args.place.row _ _ c.loop-block.block _ _ c.loop-block.invariant (simp (place.plane, place.left, place.top) at c.copy_block.ensures)

pub returns : goal.returns
returns g c = c.loop-block.invariant ∙ all_painted _ _ _ _ c.loop-block.block (omega arith)
