use Rattle.std.proofs.Common.{◌∙◌}
use Rattle.pictures.proofs.Rows.{bits_counted}
use Rattle.pictures.proofs.layouts.segment_of_row.Goals as goal

pub returns-clause-value : goal.returns-clause-value
returns-clause-value c = c.begun.ensures.counted ∙ bits_counted c.args.layout c.args.row
