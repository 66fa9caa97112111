use Rattle.std.proofs.Common.{◌≡◌, min, length, get_or, sym, arith}
use Rattle.std.proofs.lemmas.Bool.{cond-true}
use Rattle.stores.specs.Tiles.{tiles_seen}
use Rattle.stores.proofs.InTiles.{tile_rows_all, tile_rows_more, tile_rows_none}
use Rattle.stores.proofs.tiles.copy_rows.Goals as goal

pub loop-row-init : goal.loop-row-init
loop-row-init c = tile_rows_none c.args.segment _ _

pub loop-row-preserved : goal.loop-row-preserved
loop-row-preserved c =
    let a = c.args in
    let words = c.loop-row.words in
    let all : length words ≡ length a.words.now = c.loop-row.auto.words in
    tile_rows_more a.size.columns a.size.rows c.loop-row.row (min (length a.from.now) (length words)) a.segment words c.copy_part.new.to (λ k. get_or a.from.now k 0)
    (tiles_seen a.size.columns a.size.rows a.from.now).sample _ c.requires.inside c.loop-row.auto.row (omega (arith, all, c.requires)) (λ k. c.copy_part.ensures k 0)
    (λ q u v i. sym (cond-true _ _ _ i)) c.loop-row.invariant

pub returns : goal.returns
returns c = tile_rows_all c.args.segment c.loop-row.row _ _ _ (omega (arith, c.loop-row-test.false, c.loop-row.auto.row-end c.requires.inside.downwards)) c.loop-row.invariant
