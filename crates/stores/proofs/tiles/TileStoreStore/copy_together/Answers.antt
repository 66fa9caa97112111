use Rattle.std.proofs.Common.{vec_items, sym, ap, ◌∙◌}
use Rattle.std.proofs.lemmas.Bool.{not-false}
use Rattle.std.proofs.lemmas.List.{with_items_is}
use Rattle.pictures.specs.Pictures.{covers, painted}
use Rattle.stores.specs.Tiles.{tiles_seen}
use Rattle.stores.proofs.Fitting.{same_size}
use Rattle.stores.proofs.tiles.TileStoreStore.copy_together.Goals as goal

pub returns : goal.returns
returns c =
    let s = c.args.self.now in
    let others = c.args.other.now in
    let seen = tiles_seen s.size.columns s.size.rows in
    let same = same_size s.size.columns others.size.columns s.size.rows others.size.rows (not-false _ (sym c.ne.ensures ∙ c.if-ne.false)) in
    rw (← same.0, ← same.1)
    (ap seen (with_items_is s.memory c.copy_rows.new.words (c.copy_rows.auto.words ∙ c.deref_mut.ensures.len)) ∙ c.copy_rows.ensures
    ∙ ap (λ words. painted (covers c.args.segment) (seen words).sample (seen c.deref_mut.result.now)) c.deref.ensures.value
    ∙ ap (λ words. painted (covers c.args.segment) (seen (vec_items others.memory)).sample (seen words)) c.deref_mut.ensures.value)
