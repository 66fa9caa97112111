use Rattle.std.proofs.Common.{length, ap, arith, length-drop, rules}
use Rattle.std.proofs.lemmas.List.{take_rest}
use Rattle.script.specs.Fields.{is_line_feed}
use Rattle.script.proofs.Spans.{from_on_le}
use Rattle.script.proofs.fields.split_line.Goals as goal

pub returns-in-len1-up-clause-falls : goal.returns-in-len1-up-clause-falls
returns-in-len1-up-clause-falls c =
    let all = from_on_le is_line_feed c.args.bytes.now in
    λ h. simp (take_rest, length-drop) (omega (arith, all, ap length (c.split_at_first.ensures.back is_line_feed (search rules)), c.in-len1-up.len_at_least))
