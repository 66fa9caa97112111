use Rattle.std.proofs.Common.{arith, false-eqb}
use Rattle.script.proofs.Spans.{first_line}
use Rattle.script.proofs.fields.LinesIterator.next.Goals as goal

pub returns-clause-steps : goal.returns-clause-steps
returns-clause-steps c = rw (c.split_line.ensures.front, c.split_line.ensures.back) (first_line c.args.self.now.rest.now (omega (arith, false-eqb _ _ c.if-is_empty.ensures)))
