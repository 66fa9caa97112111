use Rattle.std.proofs.Common.{suc, ◌-◌, ap, ◌∙◌, add-one, arith}
use Rattle.pictures.specs.Segments.{segment_of_row, segment_count}
use Rattle.pictures.proofs.Rows.{segmented}
use Rattle.pictures.proofs.formats.Format.segments.Goals as goal

pub returns : goal.returns
unfolding segment_count
returns c =
    record {
      value = add-one c.segment_of_row.result ∙ ap suc (c.segment_of_row.ensures.value ∙ ap (λ n. segment_of_row c.args.layout (n - 1)) c.rows.ensures.value);
      laws = segmented c.args.self c.args.layout;
      few = omega arith;
    }
