use Rattle.std.proofs.Common.{pos, ◌+ℤ◌, ap, ◌∙◌, w8}
use Rattle.std.proofs.lemmas.Int.{to_z-of_z}
use Rattle.prediction.proofs.Moves.{half_is}
use Rattle.prediction.proofs.window.is_half.Goals as goal

pub returns : goal.returns
returns c = half_is c.args.component _ (c.half_steps.ensures.value ∙ ap (λ z. z +ℤ pos 128) (to_z-of_z w8 c.args.component c.ranges.component))
