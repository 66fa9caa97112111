use Rattle.std.proofs.Common.{◌<◌, length, vec_items, refl, arith}
use Rattle.pictures.proofs.Painting.{span_one}
use Rattle.stores.proofs.InTiles.{word_filled}
use Rattle.stores.proofs.tiles.TileStoreStore.fill_run.Goals as goal

pub returns-in-Some : goal.returns-in-Some
returns-in-Some c =
    let at = c.in-Some.ensures in
    let mine = c.args.self.now in
    let w = c.in-Some.word in
    let lt : w < length (vec_items mine.memory) = omega (arith, mine.memory.ok.0, mine.enough, at.kept) in
    record {
      next = (omega arith, at.ends);
      after = word_filled mine.size.columns mine.size.rows c.args.plane c.args.across c.args.down c.args.right w
          (vec_items mine.memory) c.word_of_one.result c.args.value at lt (omega (arith, c.ranges.value)) c.word_of_one.ensures;
    }

pub returns : goal.returns
returns c =
    record {
      next = (omega arith, omega arith);
      after = span_one (λ _ _ _. c.args.value) _ _ c.args.plane c.args.across c.args.down c.args.value c.write.ensures.after refl;
    }
