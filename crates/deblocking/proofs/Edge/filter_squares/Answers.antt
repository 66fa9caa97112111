use Rattle.std.proofs.Common.{◌≡◌, ℕ, ◌+◌, ◌*◌, Some, refl, ap, ◌∙◌, arith}
use Rattle.pictures.specs.Pictures.{painted}
use Rattle.pictures.proofs.Painting.{none}
use Rattle.deblocking.specs.Edges.{deblocked_at, edges, is_vertical, turn}
use Rattle.deblocking.proofs.Edges.{filtered_on, none_along}
use Rattle.deblocking.proofs.Edge.filter_squares.Goals as goal

pub loop-square-init : goal.loop-square-init
loop-square-init g c = none _ _ _ (λ q u v. let e : c.args.from + 8 * 0 ≡ c.args.from = omega arith in rw e (none_along _ c.args.from _ _ q u v))

pub loop-square-preserved : goal.loop-square-preserved
loop-square-preserved g c =
    let t = is_vertical c.args.self.direction in
    let p = c.args.self.plane in
    let low = c.args.from in
    let n = c.args.self.number in
    let x = c.args.from + 8 * c.loop-square.square in
    let k = λ (_ _ _ : ℕ). Some c.args.quantizer in
    let f = turn t (g.S.Store.picture c.args.store.now) in
    let next : x + 8 ≡ low + 8 * (c.loop-square.square + 1) = omega arith in
    filtered_on p low x (x + 8) n k k f (turn t (g.S.Store.picture c.loop-square.store)) _ (omega arith) (omega arith) (omega arith) c.loop-square.invariant c.filter_square.ensures (λ u h i. refl)
    ∙ ap (λ m. painted (edges p low m n (n + 1)) (deblocked_at k f.sample) f) next
