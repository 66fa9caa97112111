use Rattle.std.proofs.Common.{◌/◌, cond, get_or, ap, ◌∙◌, arith}
use Rattle.pictures.specs.Formats.{columns_of}
use Rattle.calls.specs.Effects.{fill_age, missing}
use Rattle.reel.proofs.Filled.{ages_all, ages_more}
use Rattle.reel.proofs.reels.Slip.fill_ages.Goals as goal

pub loop-cell-preserved : goal.loop-cell-preserved
loop-cell-preserved c =
    let cell = c.loop-cell.cell in
    ages_more (λ i. missing c.args.self.now.layout c.args.self.now.accepted (i / columns_of c.args.self.now.reel.format)) c.args.self.now.kind c.args.finished.now c.loop-cell.working _ cell
    c.closing_age.result (omega arith) (omega arith)
    (c.closing_age.ensures
    ∙ ap (λ n. cond (missing c.args.self.now.layout c.args.self.now.accepted (cell / n)) (fill_age c.args.self.now.kind (get_or c.args.finished.now cell 0)) (get_or c.loop-cell.working cell 0))
    c.columns-columns.ensures.value)
    c.loop-cell.invariant

pub returns : goal.returns
returns c =
    ages_all (λ i. missing c.args.self.now.layout c.args.self.now.accepted (i / columns_of c.args.self.now.reel.format)) c.args.self.now.kind c.args.finished.now c.loop-cell.working _ c.loop-cell.cell
    (omega arith) (omega arith) c.loop-cell.invariant
