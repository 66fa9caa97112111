use Rattle.std.proofs.Common.{◌≡◌, ◌<◌, length, get_or, vec_items, sym, ◌∙◌, arith}
use Rattle.std.proofs.lemmas.List.{get_or_read}
use Rattle.pictures.proofs.Painting.{span_one}
use Rattle.stores.specs.Tiles.{tiles_seen}
use Rattle.stores.proofs.Fitting.{same_size}
use Rattle.stores.proofs.InTiles.{word_copied}
use Rattle.stores.proofs.tiles.TileStoreStore.copy_run.Goals as goal

pub returns-in-Some : goal.returns-in-Some
returns-in-Some c =
    let at = c.in-Some.ensures in
    let mine = c.args.self.now in
    let others = c.args.other.now in
    let w = c.in-Some.word in
    let same = same_size mine.size.columns others.size.columns mine.size.rows others.size.rows (sym c.eq.ensures ∙ c.if-eq.true) in
    let lt : w < length (vec_items mine.memory) = omega (arith, mine.memory.ok.0, mine.enough, at.kept) in
    let lt' : w < length (vec_items others.memory) = omega (arith, others.memory.ok.0, others.enough, rw (same.0, same.1) at at.kept) in
    let word : c.index.result.now ≡ get_or (vec_items others.memory) w 0 = get_or_read (vec_items others.memory) w _ lt' c.index.ensures 0 in
    record {
      next = (omega arith, at.ends);
      after = word_copied mine.size.columns mine.size.rows others.size.columns others.size.rows c.args.plane c.args.across c.args.down c.args.right w
          (vec_items mine.memory) (vec_items others.memory) c.index.result.now same.0 same.1 at lt word;
    }

pub returns : goal.returns
returns c =
    let others = c.args.other.now in
    let f = tiles_seen others.size.columns others.size.rows (vec_items others.memory) in
    record {
      next = (omega arith, omega arith);
      after = span_one f.sample _ _ c.args.plane c.args.across c.args.down c.sample-value.result c.write.ensures.after c.sample-value.ensures;
    }
