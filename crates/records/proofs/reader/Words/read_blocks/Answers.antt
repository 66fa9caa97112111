use Rattle.std.proofs.Common.{sym, ◌∙◌, length-set}
use Rattle.std.proofs.lemmas.Result.{err_from_is_err_and}
use Rattle.records.specs.Reading.{unread_of}
use Rattle.records.proofs.Blocks.{blocks_end, blocks_stop, blocks_more}
use Rattle.records.proofs.reader.Words.read_blocks.Goals as goal

pub returns-in_err-gathered : goal.returns-in_err-gathered
returns-in_err-gathered c =
    let p = err_from_is_err_and c.from_residual.result c.from_residual.ensures.1 in
    rw (p.1, p.2) (sym (blocks_stop _ _ _ _ (unread_of c.loop-block.self) c.loop-block.gathered _ c.loop-block-test.true c.in_err-gathered.ensures) ∙ c.loop-block.invariant.0)

pub loop-block-preserved : goal.loop-block-preserved
loop-block-preserved c = (
  sym (blocks_more _ _ _ _ (unread_of c.loop-block.self) c.loop-block.gathered _ _ c.loop-block-test.true c.loop-block.invariant.1 c.in_ok-gathered.ensures) ∙ c.loop-block.invariant.0,
  simp length-set c.loop-block.invariant.1,
)

pub returns : goal.returns
returns c = sym (blocks_end _ _ _ _ (unread_of c.loop-block.self) c.loop-block.gathered c.loop-block-test.false c.loop-block.invariant.1) ∙ c.loop-block.invariant.0
