use Rattle.std.proofs.Common.{◌&&◌, eqb, ltb, sym, refl, ap, ◌∙◌, arith}
use Rattle.std.proofs.lemmas.Bool.{and_parts}
use Rattle.pictures.specs.Pictures.{painted}
use Rattle.pictures.proofs.Painting.{alike, planes_more, planes_all}
use Rattle.deblocking.specs.Edges.{edges_in, quantizer_at, deblocked_at, is_vertical, turn}
use Rattle.deblocking.proofs.Edges.{then_deblocked, apart_planes, inside_says, turned_twice}
use Rattle.deblocking.proofs.filter_edges.Goals as goal

pub loop-plane-preserved : goal.loop-plane-preserved
loop-plane-preserved g c =
    let t = is_vertical c.args.direction in
    let p = c.loop-plane.plane in
    let s = c.turn_segment-inner.result in
    let k = quantizer_at c.args.cells.now c.columns-columns.result t in
    then_deblocked (λ q u v. ltb q p && edges_in s q u v) (λ q u v. eqb p q && edges_in s q u v) _ k k
    (turn t (g.S.Store.picture c.args.store.now)) (turn t (g.S.Store.picture c.loop-plane.store)) _
    c.loop-plane.invariant c.filter_plane.ensures
    (λ q u v. planes_more (edges_in s q u v) p q)
    (λ q u v j e m. apart_planes (edges_in s q u v) _ p q e)
    (λ q u v e. let w = inside_says s q u v (and_parts (eqb p q) (edges_in s q u v) e).1 in (w.2, omega (arith, w.3), refl))

pub returns : goal.returns
returns g c =
    let t = is_vertical c.args.direction in
    let f = g.S.Store.picture c.args.store.now in
    let s = c.turn_segment-inner.result in
    let k = quantizer_at c.args.cells.now c.columns-columns.result t in
    sym (turned_twice t _)
    ∙ ap (turn t) (c.loop-plane.invariant
    ∙ alike _ (edges_in s) (deblocked_at k (turn t f).sample) (turn t f) (λ q u v h. planes_all (turn t f) (edges_in s q u v) c.loop-plane.plane q u v (omega arith) h))
    ∙ ap (λ m. turn t (painted (edges_in s) (deblocked_at (quantizer_at c.args.cells.now m t) (turn t f).sample) (turn t f))) c.columns-columns.ensures
    ∙ ap (λ m. turn t (painted (edges_in m) (deblocked_at (quantizer_at c.args.cells.now f.wide t) (turn t f).sample) (turn t f))) c.turn_segment-inner.ensures
