use Rattle.std.proofs.Common.{◌≡◌, ◌/◌, ◌%◌, ◌<◌, length, get_or, set, vec_items, sym, ap, ◌∙◌, arith}
use Rattle.std.proofs.lemmas.List.{get_or_read}
use Rattle.pictures.proofs.Addresses.{writes, writes_nothing}
use Rattle.stores.specs.Tiles.{tile_address, four, joined, lane_at}
use Rattle.stores.proofs.InTiles.{tiles_apart, lane_set}
use Rattle.stores.proofs.tiles.TileStoreStore.write.Goals as goal

pub returns : goal.returns
returns c =
    let words = vec_items c.args.self.now.memory in
    let found = c.in-Some.ensures in
    let at = c.in-Some.at in
    let value = c.args.value in
    let lt : at / 4 < length words = omega (arith, c.args.self.now.memory.ok.0, c.args.self.now.enough, found.kept) in
    let word : c.index.result.now ≡ get_or words (at / 4) 0 = get_or_read words (at / 4) _ lt c.index.ensures 0 in
    let new : c.from_be_bytes.result ≡ joined (set (four (get_or words (at / 4) 0)) (at % 4) value) =
    c.from_be_bytes.ensures ∙ ap (λ bytes. joined (set bytes (at % 4) value)) (c.to_be_bytes-four.ensures ∙ ap four word) in
    record {
      answer = sym found.isin;
      after = writes _ _ (tile_address c.args.self.now.size.columns) (tiles_apart _ _) (lane_at words) (lane_at (set words (at / 4) c.from_be_bytes.result))
          c.args.plane c.args.across c.args.down value found.isin
          (λ a. rw (← found.from, new) (lane_set words at value (omega (arith, c.ranges.value)) lt a));
    }

pub returns-in_default : goal.returns-in_default
returns-in_default c =
    let out = c.in_default.ensures in
    record { answer = sym out; after = writes_nothing _ c.args.plane c.args.across c.args.down c.args.value out }
