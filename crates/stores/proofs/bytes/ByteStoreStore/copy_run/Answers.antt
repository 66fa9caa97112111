use Rattle.std.proofs.Common.{ℕ, ◌*◌, ◌≤◌, cond, min, List, length, get_or, vec_items, sym, ap, ◌∙◌, arith}
use Rattle.std.proofs.lemmas.List.{with_items_is}
use Rattle.pictures.proofs.Painting.{span_one}
use Rattle.tables.specs.Cells.{in_part}
use Rattle.stores.specs.Bytes.{bytes_seen}
use Rattle.stores.proofs.Fitting.{same_size}
use Rattle.stores.proofs.InBytes.{run_copied}
use Rattle.stores.proofs.bytes.ByteStoreStore.copy_run.Goals as goal

-- the cell k after so many cells from at on were copied
abbrev copied : ℕ → ℕ → ℕ → ℕ → List ℕ → List ℕ → ℕ
copied at count k d from to = cond (in_part at count (min (length from) (length to)) k) (get_or from k d) (get_or to k d)

pub returns-in-Some : goal.returns-in-Some
returns-in-Some c =
    let run = c.in-Some.ensures in
    let mine = c.args.self.now in
    let others = c.args.other.now in
    let at = c.in-Some.at in
    let count = c.in-Some.count in
    let ys = c.copy_part.new.to in
    let same = same_size mine.size.columns others.size.columns mine.size.rows others.size.rows (sym c.eq.ensures ∙ c.if-eq.true) in
    let room : mine.size.columns * mine.size.rows * 384 ≤ length (vec_items mine.memory) = omega (arith, mine.memory.ok.0, mine.enough) in
    let room' : mine.size.columns * mine.size.rows * 384 ≤ length (vec_items others.memory) =
    rw (same.0, same.1) (let r : others.size.columns * others.size.rows * 384 ≤ length (vec_items others.memory) = omega (arith, others.memory.ok.0, others.enough) in r) in
    record {
      next = (omega (arith, run.some), run.ends);
      after =
          ap (bytes_seen mine.size.columns mine.size.rows) (with_items_is mine.memory ys (c.copy_part.auto.to ∙ c.deref_mut.ensures.len))
          ∙ run_copied mine.size.columns mine.size.rows others.size.columns others.size.rows c.args.plane c.args.across c.args.down c.args.right at count
          (vec_items mine.memory) (vec_items others.memory) ys same.0 same.1 run room room'
          (λ k d. c.copy_part.ensures k d
          ∙ ap (λ xs. copied at count k d xs c.deref_mut.result.now) c.deref.ensures.value
          ∙ ap (λ zs. copied at count k d (vec_items others.memory) zs) c.deref_mut.ensures.value);
    }

pub returns : goal.returns
returns c =
    let others = c.args.other.now in
    let f = bytes_seen others.size.columns others.size.rows (vec_items others.memory) in
    record {
      next = (omega arith, omega arith);
      after = span_one f.sample _ _ c.args.plane c.args.across c.args.down c.sample-value.result c.write.ensures.after c.sample-value.ensures;
    }
