use Rattle.std.proofs.Common.{ap, ◌∙◌}
use Rattle.std.proofs.lemmas.List.{with_items_is}
use Rattle.pictures.specs.Pictures.{covers, painted}
use Rattle.stores.specs.Tiles.{tiles_seen}
use Rattle.stores.proofs.tiles.TileStoreStore.fill_together.Goals as goal

pub returns : goal.returns
returns c =
    let s = c.args.self.now in
    let seen = tiles_seen s.size.columns s.size.rows in
    ap seen (with_items_is s.memory c.fill_rows.new.words (c.fill_rows.auto.words ∙ c.deref_mut.ensures.len)) ∙ c.fill_rows.ensures
    ∙ ap (λ words. painted (covers c.args.segment) (λ _ _ _. c.args.value) (seen words)) c.deref_mut.ensures.value
