use Rattle.std.proofs.Common.{◌≡◌, ℕ, suc, ◌+◌, refl, ap, ◌∙◌, arith}
use Rattle.conformance.specs.Draws.{stepped, stepped_by}
use Rattle.conformance.proofs.draws.Generator.block.Goals as goal

one_more : (n state : ℕ) → stepped (stepped_by n state) ≡ stepped_by (n + 1) state
unfolding stepped_by
one_more n state = let e : suc n ≡ n + 1 = omega arith in ap (λ k. stepped_by k state) e

pub loop-sample-init : goal.loop-sample-init
unfolding stepped_by
loop-sample-init c = refl

pub loop-sample-preserved : goal.loop-sample-preserved
loop-sample-preserved c = c.draw.ensures.state ∙ ap stepped c.loop-sample.invariant ∙ one_more c.loop-sample.sample-index c.args.self.now.state
