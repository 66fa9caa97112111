use Rattle.std.proofs.Common.{◌∙◌}
use Rattle.pictures.proofs.Rows.{rows_counted}
use Rattle.pictures.proofs.layouts.rows_before.Goals as goal

pub returns-clause-value : goal.returns-clause-value
returns-clause-value c = c.rows_below.ensures.counted ∙ rows_counted c.args.layout c.args.number c.args.rows
