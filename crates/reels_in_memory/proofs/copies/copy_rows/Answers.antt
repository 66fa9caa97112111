use Rattle.std.proofs.Common.{◌*◌, ◌≤◌, length, ap, arith, ◌∙◌}
use Rattle.reels_in_memory.specs.Copies.{row_samples}
use Rattle.reels_in_memory.proofs.Rows.{no_rows, row_more, row_wide}
use Rattle.reels_in_memory.proofs.copies.copy_rows.Goals as goal

pub loop-down-init : goal.loop-down-init
loop-down-init g c = no_rows (g.S.Store.picture c.args.store.now) c.args.plane c.args.width c.args.samples.now

pub loop-down-preserved : goal.loop-down-preserved
loop-down-preserved g c =
    let f = g.S.Store.picture c.args.store.now in
    let w = c.args.width in
    let k = c.loop-down.down in
    let room : w * c.args.height ≤ length c.loop-down.samples = omega arith in
    let is = c.copy_row.ensures ∙ ap (λ n. row_samples f c.args.plane n k) (row_wide w k c.args.height c.loop-down.samples c.loop-down-test.true room) in
    row_more f c.args.plane w k c.args.samples.now c.loop-down.samples c.copy_row.new.row c.loop-down.invariant is _ (omega arith)
