use Rattle.std.proofs.Common.{◌%◌, ap, ◌∙◌, arith}
use Rattle.rebuild.specs.Macroblocks.{plane_of, source_for}
use Rattle.rebuild.specs.Rebuilders.{coded_sample_by}
use Rattle.rebuild.proofs.Sixths.{agreeing, all_painted, block_painted, block_samples, in_block, no_block_painted}
use Rattle.rebuild.proofs.rebuilder.Rebuilder.rebuild_coded.Goals as goal

pub loop-block-init : goal.loop-block-init
loop-block-init g c = no_block_painted _ _ _ _

pub loop-block-preserved : goal.loop-block-preserved
loop-block-preserved g c =
    let a = c.args in
    let b = c.loop-block.block in
    let place = c.block-at.ensures in
    let new = coded_sample_by g.S.Store.picture g.T.Transform.meaning a.self.now a.macroblock.now a.vector in
    block_painted a.place.column a.place.row new _ b (g.S.Store.picture c.loop-block.working) _ c.loop-block.invariant
    (simp (place.plane, place.left, place.top) at c.rebuild_block.ensures
    ∙ agreeing _ _ new _ (λ q u v e.
    let i = in_block a.place.column a.place.row b q u v e in
    block_samples _ _ _ _ _ _ c.source_for-source.result _ (plane_of b) b q u v (c.source_for-source.ensures ∙ ap (source_for a.macroblock.now a.vector) place.plane) i.0 i.1 (c.residual_of-residual.ensures (u % 8) (v % 8) (omega arith) (omega arith))))

pub returns : goal.returns
returns g c = c.loop-block.invariant ∙ all_painted _ _ _ _ c.loop-block.block (omega arith)
