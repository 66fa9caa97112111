use Rattle.std.proofs.Common.{◌≡◌, ◌+◌, List, length, get_or, ℤ, pos, sym, ap, ◌∙◌, subst, length-set, to_z-of_z, w8, w16, SFits, to_z, rules}
use Rattle.transform.specs.Coefficients.{SetBefore}
use Rattle.transform.specs.Levels.{dequantized}
use Rattle.transform.proofs.Positions.{set_before_more, set_before_zero}
use Rattle.transform.proofs.levels.set_eight.Goals as goal
use Rattle.transform.proofs.levels.set_eight.Goals.{then-level-ne0, else-level-ne0}

pub loop-position-preserved : goal.loop-position-preserved
loop-position-preserved c =
    let q = c.args.quantizer in
    let levels = c.args.levels.now in
    let i = c.loop-position.position in
    let xs = c.loop-position.out in
    let n = c.loop-position.invariant.0 in
    let read : SFits w8 (get_or levels i (pos 0)) = search rules in
    elim c.if-level-ne0.branch [
      | then-level-ne0 w ↦ subst (λ (ys : List ℤ). (length ys ≡ 64) × SetBefore q levels (i + 1) ys) (sym w.out-is) (
        simp length-set n,
        set_before_more q levels xs i w.place.result _ n w.place.ensures.inside w.place.ensures.value
            (to_z-of_z {w = w16} (record { sfits = w.dequantize.type_inv }) ∙ w.dequantize.ensures ∙ ap (dequantized q) (to_z-of_z read)) c.loop-position.invariant.1,
      )
      | else-level-ne0 w ↦ subst (λ (ys : List ℤ). (length ys ≡ 64) × SetBefore q levels (i + 1) ys) (sym w.out-is)
          (n, set_before_zero q levels xs i (sym (to_z-of_z read) ∙ ap (to_z w8) w.if-level-ne0.false) c.loop-position.invariant.1)
    ]
