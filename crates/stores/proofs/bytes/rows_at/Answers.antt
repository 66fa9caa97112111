use Rattle.std.proofs.Common.{◌+◌, ◌*◌, sym, ap, ◌∙◌, arith}
use Rattle.pictures.proofs.Addresses.{inside_before, within}
use Rattle.stores.proofs.InBytes.{square_kept}
use Rattle.stores.proofs.bytes.rows_at.Goals as goal

pub address-at-requires : goal.address-at-requires
address-at-requires c =
    let a = c.args in
    inside_before _ _ _ a.across a.down (a.across + 7) (a.down + 7) (omega arith) (omega arith) (sym c.is_inside.ensures ∙ c.if-not-is_inside.false)

pub returns : goal.returns
returns c =
    let a = c.args in
    let last = sym c.is_inside.ensures ∙ c.if-not-is_inside.false in
    record {
      last = last;
      from = c.address-at.ensures.from;
      apart = ap (λ s. a.size.columns * s) c.side_of.ensures;
      kept = rw (c.address-at.ensures.from, c.side_of.ensures) (square_kept a.size.columns a.size.rows a.plane a.across a.down (within _ _ _ _ _ last));
    }
