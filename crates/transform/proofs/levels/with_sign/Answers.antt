use Rattle.std.proofs.Common.{pos, sym, ap, ◌∙◌, arith, to_z-of_z}
use lib.Signed.{lt_z}
use Rattle.transform.proofs.Quantized.{sign_under, sign_over}
use Rattle.transform.proofs.levels.with_sign.Goals as goal

pub returns-then-number-lt0 : goal.returns-then-number-lt0
returns-then-number-lt0 c = sign_under c.args.number c.args.size _ c.from-size.ensures (omega arith) (ap (λ z. lt_z z (pos 0)) (sym (to_z-of_z c.ranges.number)) ∙ c.if-number-lt0.true)

pub returns-else-number-lt0 : goal.returns-else-number-lt0
returns-else-number-lt0 c = sign_over c.args.number c.args.size _ c.from-size.ensures (omega arith) (ap (λ z. lt_z z (pos 0)) (sym (to_z-of_z c.ranges.number)) ∙ c.if-number-lt0.false)
