use Rattle.std.proofs.Common.{suc, ap, ◌∙◌, add-one, arith}
use Rattle.pictures.specs.Segments.{rows_before, first_row}
use Rattle.pictures.proofs.Rows.{segmented}
use Rattle.pictures.proofs.formats.Format.segment.Goals as goal

pub returns : goal.returns
unfolding first_row
returns c =
    let top = c.rows_before.ensures.value ∙ ap (rows_before c.args.layout c.args.number) c.rows-rows.ensures.value in
    let bottom = c.rows_before-2.ensures.value
    ∙ ap (λ k. rows_before c.args.layout k c.rows-rows.result) (add-one c.args.number)
    ∙ ap (rows_before c.args.layout (suc c.args.number)) c.rows-rows.ensures.value in
    let law = (segmented c.args.self c.args.layout).in_order c.args.number in
    record {
      value = λ i. record { left = 0; right = c.columns.ensures.value i; top = top i; bottom = bottom i };
      within = (omega arith, (omega arith, (omega (arith, law, top, bottom), omega arith)));
    }
