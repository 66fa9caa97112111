use Rattle.std.proofs.Common.{◌+◌, ◌*◌, ◌≤◌, ◌&&◌, eqb, refl, ap, ◌∙◌, arith}
use Rattle.pictures.specs.Pictures.{painted, side}
use Rattle.pictures.proofs.Painting.{none, alike}
use Rattle.deblocking.specs.Edges.{edges, edges_in, quantizer_at, deblocked_at, is_vertical, turn}
use Rattle.deblocking.proofs.Edges.{then_deblocked, none_over, more_over, apart_over, all_inside, says}
use Rattle.deblocking.proofs.filter_plane.Goals as goal

pub loop-number-init : goal.loop-number-init
loop-number-init g c = (none _ _ _ (none_over _ _ _ _), omega arith)

pub loop-number-preserved : goal.loop-number-preserved
loop-number-preserved g c =
    let t = is_vertical c.args.direction in
    let p = c.args.plane in
    let low = c.args.segment.left * side p in
    let high = c.args.segment.right * side p in
    let from = c.first_inside-number.result in
    let n = c.loop-number.number in
    let k = quantizer_at c.args.marks.cells.now c.args.marks.columns t in
    let started : from ≤ n = c.loop-number.auto.number in (
      then_deblocked (edges p low high from n) (edges p low high n (n + 1)) _ k k
          (turn t (g.S.Store.picture c.args.store.now)) (turn t (g.S.Store.picture c.loop-number.store)) _
          c.loop-number.invariant.0 c.filter_along.ensures
          (λ q u v. more_over p low high from n q u v started)
          (λ q u v j e m. apart_over p low high from n q u v j (omega arith) e m)
          (λ q u v e. let s = says p low high n q u v e in (s.3, omega (arith, s.4), refl)),
      omega (arith, c.loop-number.invariant.1),
    )

pub returns : goal.returns
returns g c =
    let s = c.args.segment in
    let p = c.args.plane in
    let n = c.loop-number.number in
    let e = c.first_inside-number.ensures in
    let to = c.border_of-number-end.ensures.value in
    let f = turn (is_vertical c.args.direction) (g.S.Store.picture c.args.store.now) in
    let k = quantizer_at c.args.marks.cells.now c.args.marks.columns (is_vertical c.args.direction) in
    c.loop-number.invariant.0
    ∙ ap (λ m. painted (edges p (s.left * side p) (s.right * side p) m n) (deblocked_at k f.sample) f) e
    ∙ alike _ (λ q u v. eqb p q && edges_in s q u v) (deblocked_at k f.sample) f
    (λ q u v h. all_inside s p n q u v (rw (← e) c.loop-number.auto.number) (rw (← to) (omega arith)) (rw (← e, ← to) c.loop-number.invariant.1))
