use Rattle.std.proofs.Common.{◌<◌, ◌^◌, nat_abs, sym, ◌∙◌, subst}
use Rattle.transform.proofs.Rows.{four_back, four_size}
use Rattle.transform.proofs.half_sum.Goals as goal

pub returns-clause-value : goal.returns-clause-value
returns-clause-value c =
    four_back c.term.result c.term-2.result c.term-3.result c.term-4.result c.term.ensures.small c.term-2.ensures.small c.term-3.ensures.small c.term-4.ensures.small
    ∙ simp (c.term.ensures.value, c.term-2.ensures.value, c.term-3.ensures.value, c.term-4.ensures.value)

pub returns-clause-small : goal.returns-clause-small
returns-clause-small c =
    subst (λ z. nat_abs z < 2 ^ 45) (sym (four_back c.term.result c.term-2.result c.term-3.result c.term-4.result c.term.ensures.small c.term-2.ensures.small c.term-3.ensures.small c.term-4.ensures.small))
    (four_size c.term.result c.term-2.result c.term-3.result c.term-4.result c.term.ensures.small c.term-2.ensures.small c.term-3.ensures.small c.term-4.ensures.small)
