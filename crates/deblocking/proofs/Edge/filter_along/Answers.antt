use Rattle.std.proofs.Common.{◌≡◌, ℕ, ◌+◌, ◌*◌, ◌/◌, ◌≤◌, max, sym, ap, ◌∙◌, arith}
use Rattle.pictures.specs.Pictures.{side}
use Rattle.pictures.proofs.Painting.{none, alike}
use Rattle.deblocking.specs.Edges.{edge_mark, quantizer_at, is_vertical, turn}
use Rattle.pictures.proofs.Addresses.{by_side}
use Rattle.deblocking.proofs.Edges.{between, filtered_on, none_along, until_along}
use Rattle.deblocking.proofs.Edge.filter_along.Goals as goal

-- macroblocks and the samples along them
up : (p a b : ℕ) → a ≤ b → a * side p ≤ b * side p
up p a b h = by_side (λ s. a * s ≤ b * s) p (omega arith) (omega arith)

up_max : (p a b n : ℕ) → n ≤ max a b → n * side p ≤ max (a * side p) (b * side p)
up_max p a b n h = by_side (λ s. n * s ≤ max (a * s) (b * s)) p (omega arith) (omega arith)

pub loop-along-init : goal.loop-along-init
loop-along-init g c = (none _ _ _ (none_along _ _ _ _), omega arith)

pub loop-along-preserved : goal.loop-along-preserved
loop-along-preserved g c =
    let t = is_vertical c.args.self.direction in
    let p = c.args.self.plane in
    let low = c.args.left * side p in
    let n = c.args.self.number in
    let x = c.loop-along.along in
    let k = quantizer_at c.args.marks.cells.now c.args.marks.columns t in (
      filtered_on p low (x * side p) ((x + 1) * side p) n k (λ _ _ _. c.mark-mark.result) (turn t (g.S.Store.picture c.args.store.now)) (turn t (g.S.Store.picture c.loop-along.store)) _
          (up p _ _ c.loop-along.auto.along) (up p x (x + 1) (omega arith)) (omega arith) c.loop-along.invariant.0 c.filter_marked.ensures
          (λ u h i. let b = between p x (x + 1) u h i in
          let there : u / side p ≡ x = omega (arith, b.0, b.1) in
          c.mark-mark.ensures ∙ ap (λ m. edge_mark c.args.marks.cells.now c.args.marks.columns t (side p) m n) (sym there)),
      omega (arith, c.loop-along.invariant.1),
    )

pub returns : goal.returns
returns g c =
    let p = c.args.self.plane in
    let x = c.loop-along.along in
    c.loop-along.invariant.0
    ∙ alike _ _ _ _ (λ q u v h. until_along p (c.args.left * side p) (c.args.right * side p) (x * side p) _ _ q u v
    (up p _ _ c.loop-along.auto.along) (up p _ _ (omega arith)) (up_max p _ _ _ c.loop-along.invariant.1))
