use Rattle.std.proofs.Common.{◌*◌, ap, ◌∙◌, arith}
use Rattle.pictures.specs.Pictures.{painted, span}
use Rattle.pictures.proofs.Painting.{none, both, alike, block, block_none, block_more, block_all}
use Rattle.pictures.proofs.sweeps.sweep_plane.Goals as goal

pub loop-down-init : goal.loop-down-init
loop-down-init g c = (none _ _ _ (block_none _ _ _ _), omega arith)

pub loop-down-preserved : goal.loop-down-preserved
loop-down-preserved g c =
    let p = c.args.plane in
    let y = c.loop-down.down in
    let s = c.side_of-side.result in (
      both (block p (c.args.segment.left * s) (c.args.segment.right * s) (c.args.segment.top * s) y) (span p y (c.args.segment.left * s) (c.args.segment.right * s)) _
          (g.B.Brush.paint c.args.brush.now) _ (g.S.Store.picture c.loop-down.store) _
          c.loop-down.invariant.0 c.paint_row.ensures (λ q u v. block_more p _ _ (c.args.segment.top * s) y q u v c.loop-down.auto.down),
      omega (arith, c.loop-down.invariant.1),
    )

pub returns : goal.returns
returns g c =
    let y = c.loop-down.down in
    let s = c.args.segment in
    let e = c.side_of-side.ensures in
    c.loop-down.invariant.0
    ∙ ap (λ n. painted (block c.args.plane (s.left * n) (s.right * n) (s.top * n) y) (g.B.Brush.paint c.args.brush.now) (g.S.Store.picture c.args.store.now)) e
    ∙ alike _ _ _ _ (λ q u v h. block_all s c.args.plane y q u v (rw (← e) c.loop-down.auto.down) (rw (← e) (omega arith)) (rw (← e) c.loop-down.invariant.1))
