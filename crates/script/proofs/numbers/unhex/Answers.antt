use Rattle.std.proofs.Common.{◌/◌, length, sym, ◌∙◌, vec_items, arith}
use Rattle.script.proofs.Pairs.{at_end, at_start, no_high, no_low, odd_none, pair_more}
use Rattle.script.proofs.numbers.unhex.Goals as goal
use Rattle.script.proofs.numbers.unhex.Goals.{in_default-2-via-in-Some+in_default, in_default-2-via-in_default}

pub returns-in_default : goal.returns-in_default
returns-in_default c = sym (odd_none (length c.args.digits.now / 2) c.args.digits.now (omega (arith, c.as_chunks.ensures.back_len)))

pub loop-first-init : goal.loop-first-init
loop-first-init c = at_start _ _ _ c.new-bytes.ensures.items c.as_chunks.ensures.front (omega (arith, c.as_chunks.ensures.back_len, c.in_default-empty.len_below))

pub returns-in_default-2 : goal.returns-in_default-2
returns-in_default-2 c =
    elim c.in_default-2.branch [
      | in_default-2-via-in-Some+in_default w ↦ sym (no_low (vec_items c.loop-first.bytes) c.as_chunks.result.0.now c.loop-first.first-index c.loop-first-test.true (sym w.in_default-2.is-1 ∙ c.nibble-in-loop-first.ensures)) ∙ c.loop-first.invariant
      | in_default-2-via-in_default w ↦ sym (no_high (vec_items c.loop-first.bytes) c.as_chunks.result.0.now c.loop-first.first-index c.loop-first-test.true (sym w.in_default-2.is-0 ∙ c.nibble.ensures)) ∙ c.loop-first.invariant
    ]

pub loop-first-preserved : goal.loop-first-preserved
loop-first-preserved c =
    let e = pair_more (vec_items c.loop-first.bytes) c.as_chunks.result.0.now c.loop-first.first-index _ _ c.loop-first-test.true c.in-Some-Some.ensures c.in-Some-Some.ensures' in
    simp (c.in_ok-push.ensures.items) (sym e ∙ c.loop-first.invariant)

pub returns : goal.returns
returns c = sym (at_end (vec_items c.loop-first.bytes) c.as_chunks.result.0.now c.loop-first.first-index c.loop-first-test.false) ∙ c.loop-first.invariant
