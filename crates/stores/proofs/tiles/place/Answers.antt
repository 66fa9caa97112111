use Rattle.std.proofs.Common.{◌≡◌, ◌+◌, ◌*◌, ◌%◌, true, sym, ◌∙◌, arith}
use Rattle.pictures.specs.Pictures.{inside}
use Rattle.pictures.proofs.Addresses.{within}
use Rattle.stores.specs.Tiles.{tile_address}
use Rattle.stores.proofs.InTiles.{address_below, address_words}
use Rattle.stores.proofs.tiles.place.Goals as goal

is_inside : (c : goal.After-word_of) → inside c.args.size.columns c.args.size.rows c.args.plane c.args.across c.args.down ≡ true
is_inside c = sym c.is_inside.ensures ∙ c.if-not-is_inside.false

at_address : (c : goal.After-word_of) → 4 * c.word_of.result + c.args.across % 4 ≡ tile_address c.args.size.columns c.args.plane c.args.across c.args.down
at_address c = omega (arith, c.word_of.ensures.holds, address_words c.args.size.columns c.args.plane c.args.across c.args.down (within _ _ _ _ _ (is_inside c)).plane)

pub returns : goal.returns
returns c = record { isin = is_inside c; from = at_address c; kept = rw (at_address c) (address_below _ _ _ _ _ (within _ _ _ _ _ (is_inside c))) }
