use Rattle.std.proofs.Common.{ℕ, ◌^◌, ◌<◌, get_or, pos, ◌∙◌, w32, SFits, rules}
use Rattle.transform.proofs.Rows.{half_row, half_row_is, flat_from, same_row}
use Rattle.transform.proofs.row.Goals as goal

pub flat_row-requires : goal.flat_row-requires
flat_row-requires c =
    record { small = c.requires.small; flat = flat_from c.args.x.now (c.is_half_row.ensures c.if-not-is_half_row.false) (c.is_flat.ensures c.if-not-is_flat.false) }

pub returns-then-not-is_flat : goal.returns-then-not-is_flat
returns-then-not-is_flat c n h =
    let x = c.args.x.now in
    let fits : (u : ℕ) → u < 4 → SFits w32 (get_or x u (pos 0)) = λ (u : ℕ) (h : u < 4). search rules in
    let last = c.is_half_row.ensures c.if-not-is_half_row.false in
    c.whole_row-then-not-is_flat.ensures n h
    ∙ same_row (half_row x last) x c.args.quotient.half (2 ^ c.args.quotient.shift) n (half_row_is x last fits)
