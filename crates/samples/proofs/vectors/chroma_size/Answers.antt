use Rattle.std.proofs.Common.{◌≡◌, ◌+◌, ◌*◌, ◌/◌, ◌%◌, ◌≤◌, Bool, true, false, cond, not, eqb, refl, ap, ◌∙◌, arith}
use mir.Val.{bool_byte}
use Rattle.samples.specs.Vectors.{chroma_size}
use Rattle.samples.proofs.vectors.chroma_size.Goals as goal

one : (b : Bool) → (bool_byte (not b) ≡ cond b 0 1) × (cond b 0 1 ≤ 1)
one true = (refl, omega arith)
one false = (refl, omega arith)

pub returns : goal.returns
unfolding chroma_size
returns c =
    let flag = one (eqb (c.args.size % 4) 0) in
    let is = c.from.ensures ∙ flag.0 in
    record { value = ap (λ k. 2 * (c.args.size / 4) + k) is; bound = omega (arith, is, flag.1) }
