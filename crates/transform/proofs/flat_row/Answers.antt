use Rattle.std.proofs.Common.{ℕ, ◌^◌, sym, ◌∙◌, arith}
use Rattle.transform.proofs.Rows.{cases8, flat, quotient_of, quotient_is}
use Rattle.transform.proofs.flat_row.Goals as goal

pub of-requires-clause-within : goal.of-requires-clause-within
of-requires-clause-within c =
    quotient_of (2 ^ c.args.quotient.shift) c.args.x.now 0 _ (c.term.ensures.value ∙ sym (flat _ 0 c.requires.flat)) (omega (arith, c.term.ensures.small)) (omega arith) c.requires.small

pub returns : goal.returns
returns c =
    let is = λ (n : ℕ). quotient_is c.args.quotient.half (2 ^ c.args.quotient.shift) c.args.x.now n c.term.result c.of.result
    (c.term.ensures.value ∙ sym (flat _ n c.requires.flat)) (omega (arith, c.term.ensures.small)) (record { sfits = c.of.type_inv }) c.of.ensures in
    cases8 _ (is 0) (is 1) (is 2) (is 3) (is 4) (is 5) (is 6) (is 7)
