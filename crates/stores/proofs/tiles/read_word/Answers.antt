use Rattle.stores.proofs.InTiles.{word_row}
use Rattle.stores.proofs.tiles.read_word.Goals as goal

pub returns : goal.returns
returns c = word_row c.args.size.columns c.args.size.rows c.args.plane c.args.across c.args.down c.word_of.result c.args.words.now c.requires.isin c.word_of.ensures
