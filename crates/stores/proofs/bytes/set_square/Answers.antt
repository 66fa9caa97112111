use Rattle.std.proofs.Common.{◌+◌, ◌∙◌, arith}
use Rattle.pictures.specs.Pictures.{span}
use Rattle.pictures.proofs.Painting.{alike, block, both, none}
use Rattle.pictures.proofs.Squares.{no_rows, rows_all, rows_more}
use Rattle.stores.specs.Bytes.{bytes_seen}
use Rattle.stores.proofs.InBytes.{row_set}
use Rattle.stores.proofs.bytes.set_square.Goals as goal

pub loop-row-init : goal.loop-row-init
loop-row-init c = none _ _ _ (no_rows c.args.plane c.args.across c.args.down)

pub loop-row-preserved : goal.loop-row-preserved
loop-row-preserved c =
    let a = c.args in
    let row = c.loop-row.row in
    let seen = bytes_seen a.size.columns a.size.rows in
    both (block a.plane a.across (a.across + 8) a.down (a.down + row)) (span a.plane (a.down + row) a.across (a.across + 8)) (block a.plane a.across (a.across + 8) a.down (a.down + (row + 1))) _
    _ (seen c.loop-row.bytes) (seen c.copy_in.new.bytes) c.loop-row.invariant
    (row_set a.size.columns a.size.rows a.plane a.across a.down c.in-Some.at c.in-Some.stride c.in-Some.ensures c.loop-row.bytes c.copy_in.new.bytes a.values.now row (omega arith)
    (λ k. omega (arith, c.fits-values k)) c.copy_in.ensures)
    (λ q u v. rows_more a.plane a.across a.down row q u v)

pub returns : goal.returns
returns c = c.loop-row.invariant ∙ alike _ _ _ _ (λ q u v h. rows_all _ _ _ c.loop-row.row q u v (omega arith))
