use Rattle.std.proofs.Common.{vec_items, sym, ◌∙◌}
use Rattle.std.proofs.lemmas.Bool.{not-false}
use Rattle.stores.proofs.Fitting.{same_size}
use Rattle.stores.proofs.InBytes.{bytes_copied}
use Rattle.stores.proofs.bytes.ByteStoreStore.copy_together.Goals as goal

pub returns : goal.returns
returns c =
    let mine = c.args.self.now in
    let others = c.args.other.now in
    let same = same_size mine.size.columns others.size.columns mine.size.rows others.size.rows (not-false _ (sym c.ne.ensures ∙ c.if-ne.false)) in
    rw c.copy_cells.ensures.size
    (bytes_copied mine.size.columns mine.size.rows others.size.columns others.size.rows c.args.segment (vec_items mine.memory) (vec_items others.memory) (vec_items c.copy_cells.new.self.memory)
    same.0 same.1 (c.is_whole.ensures c.if-not-is_whole.false) c.copy_cells.ensures.cells)
