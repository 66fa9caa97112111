use Rattle.std.proofs.Common.{◌≡◌, ◌+◌, ◌-◌, ◌*◌, ◌<◌, ◌≤◌, min, ap, ◌∙◌, arith}
use Rattle.pictures.specs.Pictures.{side}
use Rattle.pictures.proofs.Addresses.{within}
use Rattle.stores.proofs.InBytes.{run_kept}
use Rattle.stores.proofs.bytes.run_at.Goals as goal

wide : (c : goal.After-min-end) → c.min-end.result ≡ min c.args.right (c.args.size.columns * side c.args.plane)
wide c = c.min-end.ensures ∙ ap (λ s. min c.args.right (c.args.size.columns * s)) c.side_of.ensures

pub overflow_sub-result : goal.overflow_sub-result
overflow_sub-result c = omega (arith, (within _ _ _ _ _ c.in_ok-at.ensures.isin).across, wide c)

pub returns : goal.returns
returns c =
    let at = c.in_ok-at.ensures in
    let w = within _ _ _ _ _ at.isin in
    let columns = c.args.size.columns in
    let x = c.args.across in
    let p = c.args.plane in
    let count = c.min-end.result - x in
    let some : 0 < count = omega (arith, w.across, wide c) in
    let in_row : x + count ≤ columns * side p = omega (arith, w.across, wide c) in
    record {
      isin = at.isin;
      from = at.from;
      some = some;
      ends = omega (arith, w.across, wide c);
      in_row = in_row;
      kept = rw at.from (run_kept columns c.args.size.rows p x c.args.down count w some in_row);
    }
