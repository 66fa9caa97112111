use Rattle.pictures.proofs.Rows.{segmented}
use Rattle.pictures.proofs.formats.Format.segment_of_row.Goals as goal

pub returns : goal.returns
returns c =
    record {
      value = c.segment_of_row.ensures.value;
      inside = λ h. rw c.segment_of_row.ensures.value ((segmented c.args.self c.args.layout).below_count c.args.row h);
    }
