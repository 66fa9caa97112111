use Rattle.std.proofs.Common.{◌≤◌, ap, ◌∙◌, arith, nat_abs, to_z-of_z}
use Rattle.transform.specs.Signs.{with_sign}
use Rattle.samples.specs.Vectors.{chroma_size}
use Rattle.samples.proofs.Components.{sign_size, sign_fits}
use Rattle.samples.proofs.vectors.chroma_component.Goals as goal

pub overflow_cast-result : goal.overflow_cast-result
overflow_cast-result c = let b : c.from.result ≤ 127 = omega (arith, c.from.ensures) in sign_size _ _ _ b c.with_sign.ensures

pub returns : goal.returns
returns c =
    let b : c.from.result ≤ 127 = omega (arith, c.from.ensures) in
    let v = to_z-of_z c.ranges.luma in
    sign_fits _ _ _ b c.with_sign.ensures ∙ ap (λ z. with_sign z c.from.result) v
    ∙ ap (with_sign c.args.luma) (c.from.ensures ∙ c.chroma_size-size.ensures.value ∙ ap chroma_size (c.unsigned_abs.ensures.value ∙ ap nat_abs v))
