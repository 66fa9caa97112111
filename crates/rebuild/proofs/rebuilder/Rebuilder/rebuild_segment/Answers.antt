use Rattle.std.proofs.Common.{◌≡◌, ◌+◌, ◌-◌, ◌*◌, ◌≤◌, length, get_or, drop, sym, ap, ◌∙◌, arith}
use Rattle.std.proofs.lemmas.Nat.{mul-le}
use Rattle.motion.specs.Cells.{ages_of, marks_of}
use Rattle.motion.specs.Vectors.{vectors_of, zero_vector}
use Rattle.motion.proofs.Gathered.{vectors_length}
use Rattle.pictures.specs.Pictures.{covers, painted}
use Rattle.records.specs.Again.{records_of}
use Rattle.samples.specs.Prediction.{rounding_of}
use Rattle.deblocking.specs.Edges.{filtered}
use Rattle.rebuild.specs.Rebuilt.{count_of, delivery_records, first_cell, set_from, width_of}
use Rattle.rebuild.specs.Segments.{cell_at, samples_by}
use Rattle.rebuild.proofs.Cells.{delivery_records_are, cell_below, rows_join, same_vectors, set_cells_at}
use Rattle.rebuild.proofs.Independence.{independent}
use Rattle.rebuild.proofs.Sixths.{agreeing}
use Rattle.rebuild.proofs.rebuilder.Rebuilder.rebuild_segment.Goals as goal

pub set_cells_from-requires : goal.set_cells_from-requires
set_cells_from-requires g c =
    let s = c.args.self.now.window.segment in
    let w = s.right - s.left in
    let all = c.new.ensures.count in
    let join = rows_join s.top s.bottom w (omega arith) in
    let wide : w ≤ 22 = omega arith in
    let high : s.bottom - s.top ≤ 22 = omega arith in
    let few = mul-le (s.bottom - s.top) w 22 22 high wide in
    let room = c.requires.room in
    let n : s.top * w + length (records_of c.new.result) ≡ s.bottom * w = omega (arith, all, join) in
    record {
      some_columns = omega arith;
      few = omega (arith, all, few);
      room = record {
        of_finished = rw n room.of_finished;
        of_ages = rw n room.of_ages;
        of_vectors = rw n room.of_vectors;
        of_marks = rw n room.of_marks;
      };
    }

pub returns : goal.returns
returns g c =
    let a = c.args in
    let s = a.self.now.window.segment in
    let w = width_of s in
    let records = delivery_records a.kind (count_of s) a.bytes.now in
    let one = sym (delivery_records_are _ _ _ _ c.new.ensures.records) in
    let two = sym (delivery_records_are _ _ _ _ c.new-2.ensures.records) in
    let cells = c.set_cells_from.ensures in
    let vectors = cells.vectors ∙ ap (λ rs. set_from (first_cell s) (vectors_of w rs) a.vectors.now) one in
    let meaning = g.T.Transform.meaning a.self.now.transform.now in
    let finished = (g.S.Store.picture a.self.now.window.finished.now).sample in
    let rounding = rounding_of a.self.now.window.rounding in
    let all = ap length (sym two) ∙ c.new-2.ensures.count in
    let join = rows_join s.top s.bottom w (omega arith) in
    record {
      samples = c.deblock_segment.ensures.after ∙ ap (filtered c.set_cells_from.new.marks s) (
          c.rebuild_samples.ensures
          ∙ ap (λ rs. painted (covers s) (samples_by meaning s rounding finished rs (drop (first_cell s) c.set_cells_from.new.vectors) (cell_at s)) (g.S.Store.picture a.working.now)) two
          ∙ agreeing (covers s) _ (samples_by meaning s rounding finished records (vectors_of w records) (cell_at s)) (g.S.Store.picture a.working.now) (λ q u v e.
          same_vectors meaning s rounding finished records _ (vectors_of w records) q u v
          (ap (λ vs. get_or (drop (first_cell s) vs) (cell_at s q u v) zero_vector) vectors
          ∙ set_cells_at (first_cell s) (vectors_of w records) a.vectors.now zero_vector (cell_at s q u v) (omega (arith, join, c.requires.room.of_vectors)) (omega (arith, vectors_length w records, all, cell_below s q u v e)))));
      ages = cells.ages ∙ ap (λ rs. set_from (first_cell s) (ages_of rs (drop (first_cell s) a.finished_ages.now)) a.ages.now) one;
      vectors = vectors;
      marks = cells.marks ∙ ap (λ rs. set_from (first_cell s) (marks_of rs) a.marks.now) one;
      independent = independent s (omega arith) (omega arith);
    }
