use Rattle.std.proofs.Common.{◌≡◌, ℕ, ◌+◌, ◌*◌, pos, replicate, sym, subst, arith}
use Rattle.std.proofs.lemmas.List.{get_or-replicate}
use Rattle.transform.specs.Coefficients.{SetBefore}
use Rattle.transform.proofs.Positions.{set_before_all, set_before_none, set_before_past}
use Rattle.transform.proofs.levels.from_levels.Goals as goal
use Rattle.transform.proofs.levels.from_levels.Goals.{then-not-are_zero, else-not-are_zero}

pub loop-eight-init : goal.loop-eight-init
loop-eight-init c = set_before_none c.args.quantizer c.args.levels.now (replicate 64 (pos 0)) (λ p h. get_or-replicate 64 p (pos 0) (pos 0) h)

pub loop-eight-preserved : goal.loop-eight-preserved
loop-eight-preserved c =
    let q = c.args.quantizer in
    let levels = c.args.levels.now in
    let n = 8 * c.loop-eight.eight in
    let e : n + 8 ≡ 8 * (c.loop-eight.eight + 1) = omega arith in
    subst (λ (m : ℕ). SetBefore q levels m c.if-not-are_zero.out) e
    (elim c.if-not-are_zero.branch [
      | then-not-are_zero w ↦ subst (SetBefore q levels (n + 8)) (sym w.out-is) w.set_eight.ensures
      | else-not-are_zero w ↦ subst (SetBefore q levels (n + 8)) (sym w.out-is) (set_before_past q levels c.loop-eight.out n (n + 8) (c.are_zero.ensures w.if-not-are_zero.false) (omega arith) c.loop-eight.invariant)
    ])

pub returns : goal.returns
returns c = set_before_all c.args.quantizer c.args.levels.now c.loop-eight.out (8 * c.loop-eight.eight) (omega arith) c.loop-eight.invariant
