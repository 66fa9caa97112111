use Rattle.std.proofs.Common.{take, drop, ap, ◌∙◌}
use Rattle.script.proofs.Spans.{drop_up_to, take_up_to}
use Rattle.script.proofs.fields.split_at_first.Goals as goal

pub returns-clause-front : goal.returns-clause-front
returns-clause-front g c stop tests = c.split_at.ensures.front ∙ ap (λ n. take n c.args.bytes.now) (c.find.ensures.place stop tests) ∙ take_up_to stop c.args.bytes.now

pub returns-clause-back : goal.returns-clause-back
returns-clause-back g c stop tests = c.split_at.ensures.back ∙ ap (λ n. drop n c.args.bytes.now) (c.find.ensures.place stop tests) ∙ drop_up_to stop c.args.bytes.now
