use Rattle.std.proofs.Common.{◌≡◌, ◌+◌, ◌-◌, ◌*◌, ◌/◌, ◌%◌, ◌<◌, length, get_or, ap, arith}
use Rattle.pictures.specs.Pictures.{span}
use Rattle.pictures.proofs.Painting.{both}
use Rattle.pictures.proofs.Squares.{set_all, set_none, square_up_to, square_word}
use Rattle.stores.specs.Tiles.{tiles_seen}
use Rattle.stores.proofs.InTiles.{word_isin, word_with}
use Rattle.stores.proofs.tiles.set_square.Goals as goal

pub loop-n-init : goal.loop-n-init
loop-n-init c = set_none _ c.args.plane c.args.across c.args.down c.args.values.now

pub word_of-word-requires : goal.word_of-word-requires
word_of-word-requires c = word_isin c.args.size.columns c.args.size.rows c.args.plane c.args.across c.args.down c.loop-n.n c.requires.square (omega arith)

pub loop-n-preserved : goal.loop-n-preserved
loop-n-preserved c =
    let a = c.args in
    let n = c.loop-n.n in
    let x = a.across + n % 2 * 4 in
    let y = a.down + n / 2 in
    let words = c.loop-n.words in
    let seen = tiles_seen a.size.columns a.size.rows in
    let lt : c.word_of-word.result < length words = omega (arith, c.word_of-word.ensures.kept, c.loop-n.auto.words, c.requires.room) in
    both (square_up_to a.plane a.across a.down (4 * n)) (span a.plane y x (x + 4)) (square_up_to a.plane a.across a.down (4 * (n + 1))) _
    _ (seen words) _ c.loop-n.invariant
    (word_with a.size.columns a.size.rows a.plane x y (4 * n) c.word_of-word.result words a.values.now c.word_from.result (λ _ u v. get_or a.values.now (8 * (v - a.down) + (u - a.across)) 0)
    (λ k. omega (arith, c.fits-values k)) (word_isin a.size.columns a.size.rows a.plane a.across a.down n c.requires.square (omega arith)) (omega (arith, c.requires.square.begins))
    c.word_of-word.ensures lt c.word_from.ensures
    (λ d h. let i : 4 * n + d ≡ 8 * (y - a.down) + (x + d - a.across) = omega arith in ap (λ m. get_or a.values.now m 0) i))
    (λ q u v. square_word a.plane a.across a.down n q u v (omega arith))

pub returns : goal.returns
returns c = set_all _ (tiles_seen c.args.size.columns c.args.size.rows c.loop-n.words) c.args.plane c.args.across c.args.down (4 * c.loop-n.n) c.args.values.now (omega arith) c.loop-n.invariant
