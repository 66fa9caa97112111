use Rattle.std.proofs.Common.{◌*◌, ◌≤◌, cond, length, get_or, vec_items, refl, ap, ◌∙◌, arith}
use Rattle.std.proofs.lemmas.List.{with_items_is}
use Rattle.pictures.proofs.Painting.{span_one}
use Rattle.tables.specs.Cells.{in_part}
use Rattle.stores.specs.Bytes.{bytes_seen}
use Rattle.stores.proofs.InBytes.{run_filled}
use Rattle.stores.proofs.bytes.ByteStoreStore.fill_run.Goals as goal

pub returns-in-Some-clause-after : goal.returns-in-Some-clause-after
returns-in-Some-clause-after c =
    let mine = c.args.self.now in
    let at = c.in-Some.at in
    let count = c.in-Some.count in
    let value = c.args.value in
    let ys = c.fill_part.new.cells in
    let room : mine.size.columns * mine.size.rows * 384 ≤ length (vec_items mine.memory) = omega (arith, mine.memory.ok.0, mine.enough) in
    ap (bytes_seen mine.size.columns mine.size.rows) (with_items_is mine.memory ys (c.fill_part.auto.cells ∙ c.deref_mut.ensures.len))
    ∙ run_filled mine.size.columns mine.size.rows c.args.plane c.args.across c.args.down c.args.right at count value (vec_items mine.memory) ys c.in-Some.ensures
    (omega (arith, c.ranges.value)) room
    (λ k d. c.fill_part.ensures k d
    ∙ ap (λ zs. cond (in_part at count (length zs) k) value (get_or zs k d)) c.deref_mut.ensures.value)

pub returns-clause-after : goal.returns-clause-after
returns-clause-after c = span_one (λ _ _ _. c.args.value) _ _ c.args.plane c.args.across c.args.down c.args.value c.write.ensures.after refl
