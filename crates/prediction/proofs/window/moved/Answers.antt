use Rattle.std.proofs.Common.{pos, ◌+ℤ◌, ap, ◌∙◌, arith, w8}
use Rattle.std.proofs.lemmas.Int.{to_z-of_z}
use Rattle.prediction.proofs.Moves.{moved_is}
use Rattle.prediction.proofs.window.moved.Goals as goal

pub returns : goal.returns
returns c =
    record {
      value = moved_is c.args.component _ _ (c.half_steps.ensures.value ∙ ap (λ z. z +ℤ pos 128) (to_z-of_z w8 c.args.component c.ranges.component));
      small = omega (arith, c.half_steps.ensures.small);
    }
