use Rattle.std.proofs.Common.{◌≡◌, ◌+◌, ◌-◌, ◌/◌, length, drop, sym, refl, ap, ◌∙◌, arith, length-drop, get_or-drop}
use Rattle.motion.specs.Vectors.{zero_vector}
use Rattle.records.specs.Again.{records_of}
use Rattle.records.specs.declared.types.Macroblock.TheVariants.{Skipped}
use Rattle.motion.proofs.Gathered.{next_of}
use Rattle.pictures.specs.Pictures.{covers, side}
use Rattle.pictures.proofs.Painting.{both, none}
use Rattle.rebuild.specs.Macroblocks.{segment_of_one}
use Rattle.rebuild.specs.Segments.{column_at}
use Rattle.rebuild.specs.Rebuilders.{segment_samples_by}
use Rattle.rebuild.proofs.Cells.{macroblock_inside}
use Rattle.rebuild.proofs.Sixths.{agreeing}
use Rattle.rebuild.proofs.Rectangles.{columns_before, columns_more, next_is, no_columns, samples_by_lem}
use Rattle.rebuild.proofs.rebuilder.Rebuilder.rebuild_row.Goals as goal

pub loop-column-init : goal.loop-column-init
loop-column-init g c =
    let s = c.args.self.now.window.segment in
    let e : s.left - s.left ≡ 0 = omega arith in
    (none _ _ _ (no_columns s c.args.row), rw e refl)

pub returns-in_default : goal.returns-in_default
returns-in_default g c =
    absurd (omega (arith, ap length (sym c.in_default.ensures.steps.0 ∙ c.loop-column.invariant.1), length-drop (c.loop-column.column - c.args.self.now.window.segment.left) (records_of c.args.delivery.now), c.requires.records, c.loop-column.auto.column))

pub loop-column-preserved : goal.loop-column-preserved
loop-column-preserved g c =
    let a = c.args in
    let s = a.self.now.window.segment in
    let column = c.loop-column.column in
    let i = column - s.left in
    let records = records_of a.delivery.now in
    let came = sym c.loop-column.invariant.1 ∙ c.in-Some.ensures.steps in
    let n = next_of records i _ _ came in
    let new = segment_samples_by g.S.Store.picture g.T.Transform.meaning a.self.now records (drop a.first a.vectors.now) (column_at s) in
    let one : column + 1 - s.left ≡ i + 1 = omega (arith, c.loop-column.auto.column) in (
      both (covers (columns_before s a.row column)) (covers (segment_of_one column a.row)) (covers (columns_before s a.row (column + 1))) new
          _ (g.S.Store.picture c.loop-column.working) (g.S.Store.picture c.rebuild_macroblock.new.working) c.loop-column.invariant.0
          (c.rebuild_macroblock.ensures ∙ agreeing _ _ new _ (λ q u v e.
          let m = macroblock_inside (segment_of_one column a.row) q u v e in
          let there : u / side q ≡ column = omega (arith, m.0, m.1) in
          samples_by_lem _ _ _ _ records (drop a.first a.vectors.now) (column_at s) _ _ q u v i (ap (λ k. k - s.left) there) (next_is records i Skipped _ _ n.within came) (c.vector_at-vector.ensures ∙ sym (get_or-drop a.first a.vectors.now i zero_vector))))
          (λ q u v. columns_more s a.row column q u v (omega (arith, c.loop-column.auto.column))),
      n.left ∙ ap (λ k. drop k records) (sym one),
    )

pub returns : goal.returns
returns g c =
    let s = c.args.self.now.window.segment in
    let end : c.loop-column.column ≡ s.right = omega (arith, c.loop-column.auto) in
    record {
      samples = rw end at c.loop-column.invariant.0;
      records = rw end at c.loop-column.invariant.1;
    }
