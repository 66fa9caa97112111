use Rattle.std.proofs.Common.{arith}
use Rattle.pictures.proofs.Addresses.{within}
use Rattle.stores.proofs.Fitting.{small}
use Rattle.stores.proofs.InTiles.{address_below, address_words, row_few, word_few}
use Rattle.stores.proofs.tiles.word_of.Goals as goal

pub row_word-requires : goal.row_word-requires
row_word-requires c = row_few _ _ _ _ _ c.args.size.low (within _ _ _ _ _ c.requires)

pub column_word-requires : goal.column_word-requires
column_word-requires c = word_few _ _ _ _ _ c.args.size.narrow (within _ _ _ _ _ c.requires)

pub overflow_add-result : goal.overflow_add-result
overflow_add-result c =
    let a = c.args in
    let below = address_below _ _ _ _ _ (within _ _ _ _ _ c.requires) in
    omega (arith, c.row_word.ensures, c.column_word.ensures, address_words a.size.columns a.plane a.across a.down (within _ _ _ _ _ c.requires).plane, small _ _ _ a.size.narrow a.size.low below)

pub returns : goal.returns
returns c =
    let a = c.args in
    let below = address_below _ _ _ _ _ (within _ _ _ _ _ c.requires) in
    let words = address_words a.size.columns a.plane a.across a.down (within _ _ _ _ _ c.requires).plane in
    record {
      holds = omega (arith, c.row_word.ensures, c.column_word.ensures, words);
      kept = omega (arith, c.row_word.ensures, c.column_word.ensures, words, below);
    }
