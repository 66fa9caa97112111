use Rattle.std.proofs.Common.{◌+◌, arith, ap, ◌∙◌, get_or}
use Rattle.pictures.proofs.Addresses.{inside_before}
use Rattle.stores.specs.Tiles.{tiles_seen}
use Rattle.stores.proofs.InTiles.{eight_shifted}
use Rattle.stores.proofs.tiles.eight_from.Goals as goal

pub read_word-first-requires-clause-isin : goal.read_word-first-requires-clause-isin
read_word-first-requires-clause-isin c = inside_before _ _ _ c.args.across c.args.down (c.args.across + 7) c.args.down (omega arith) (omega arith) c.requires.inside

pub read_word-second-requires-clause-isin : goal.read_word-second-requires-clause-isin
read_word-second-requires-clause-isin c = inside_before _ _ _ (c.args.across + 4) c.args.down (c.args.across + 7) c.args.down (omega arith) (omega arith) c.requires.inside

pub returns : goal.returns
returns c = λ i h.
    let a = c.args in
    ap (λ eight. get_or eight i 0) c.eight_of.ensures
    ∙ eight_shifted (tiles_seen a.size.columns a.size.rows a.words.now) a.plane a.across a.down c.read_word-first.result c.read_word-second.result c.read_word-third.result
    c.shifted.result c.shifted-2.result c.read_word-first.ensures c.read_word-second.ensures c.read_word-third.ensures c.shifted.ensures c.shifted-2.ensures i h
