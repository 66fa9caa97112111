use Rattle.std.proofs.Common.{◌≡◌, length, arith}
use Rattle.stores.proofs.InTiles.{one_value, tile_rows_all, tile_rows_more, tile_rows_none}
use Rattle.stores.proofs.tiles.fill_rows.Goals as goal

pub loop-row-init : goal.loop-row-init
loop-row-init c = tile_rows_none c.args.segment _ _

pub loop-row-preserved : goal.loop-row-preserved
loop-row-preserved c =
    let a = c.args in
    let words = c.loop-row.words in
    let all : length words ≡ length a.words.now = c.loop-row.auto.words in
    tile_rows_more a.size.columns a.size.rows c.loop-row.row (length words) a.segment words c.fill_part.new.cells (λ _. c.word_of_one-word.result) (λ _ _ _. a.value) _
    c.requires.inside c.loop-row.auto.row (omega (arith, all, c.requires.room)) (λ k. c.fill_part.ensures k 0)
    (λ q u v i. one_value a.value c.word_of_one-word.result _ (omega (arith, c.ranges.value)) c.word_of_one-word.ensures) c.loop-row.invariant

pub returns : goal.returns
returns c = tile_rows_all c.args.segment c.loop-row.row _ _ _ (omega (arith, c.loop-row-test.false, c.loop-row.auto.row-end c.requires.inside.downwards)) c.loop-row.invariant
