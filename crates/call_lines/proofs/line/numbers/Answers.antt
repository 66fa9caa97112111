use Rattle.std.proofs.Common.{◌≡◌, take, Some, None, Err, sym, ap, ◌∙◌, length-set, arith, rules}
use Rattle.std.proofs.lemmas.List.{take_all, take_more_set}
use Rattle.script.specs.declared.line.Mistake.TheVariants as mistake
use Rattle.script.specs.Fields.{field_of}
use Rattle.script.specs.Numbers.{number_in}
use Rattle.script.specs.Lines.{ended}
use Rattle.call_lines.proofs.Numbered.{at_end, no_number, none_left, one_number}
use Rattle.call_lines.proofs.line.numbers.Goals as goal

pub returns-in_err-slot : goal.returns-in_err-slot
returns-in_err-slot g c =
    let none : None ≡ number_in (field_of c.loop-slot.rest.now) = search rules in
    let e : c.from_residual.result ≡ Err mistake.Number = search rules in
    e ∙ sym (no_number _ c.loop-slot.rest.now g.row.N c.loop-slot.slot-index (omega arith) none) ∙ c.loop-slot.invariant.0

pub loop-slot-preserved : goal.loop-slot-preserved
loop-slot-preserved g c =
    let some : Some c.in_ok-slot.field-0 ≡ number_in (field_of c.loop-slot.rest.now) = search rules in (
      rw (c.split_field.ensures.back, take_more_set c.loop-slot.slot-items c.loop-slot.slot-index c.in_ok-slot.field-0 (omega (arith, c.loop-slot.invariant.1)))
          (sym (one_number (take c.loop-slot.slot-index c.loop-slot.slot-items) c.loop-slot.rest.now g.row.N c.loop-slot.slot-index c.in_ok-slot.field-0 (omega arith) some) ∙ c.loop-slot.invariant.0),
      length-set _ _ _ ∙ c.loop-slot.invariant.1,
    )

pub returns : goal.returns
returns g c =
    let whole = take_all c.loop-slot.slot-index c.loop-slot.slot-items (omega (arith, c.loop-slot.invariant.1)) in
    at_end c.loop-slot.rest.now c.loop-slot.slot-items c.in_ok-end.ensures ∙ ap (ended c.loop-slot.rest.now) (sym whole)
    ∙ sym (none_left _ c.loop-slot.rest.now g.row.N c.loop-slot.slot-index (omega arith)) ∙ c.loop-slot.invariant.0
