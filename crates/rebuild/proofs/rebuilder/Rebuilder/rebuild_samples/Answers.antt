use Rattle.std.proofs.Common.{◌≡◌, ◌+◌, ◌-◌, ◌*◌, drop, sym, refl, ap, ◌∙◌, zero-mul, arith}
use Rattle.std.proofs.lemmas.List.{drop-drop}
use Rattle.records.specs.Again.{records_of}
use Rattle.pictures.specs.Pictures.{covers, row_in}
use Rattle.pictures.proofs.Painting.{both, no_rows_above, none, rows_above, rows_above_more}
use Rattle.rebuild.specs.Segments.{cell_at, column_at}
use Rattle.rebuild.specs.Rebuilders.{segment_samples_by}
use Rattle.rebuild.proofs.Sixths.{agreeing}
use Rattle.rebuild.proofs.Rectangles.{row_cells, row_samples}
use Rattle.rebuild.proofs.rebuilder.Rebuilder.rebuild_samples.Goals as goal

pub loop-row-init : goal.loop-row-init
loop-row-init g c =
    let s = c.args.self.now.window.segment in
    let e : (s.top - s.top) * (s.right - s.left) ≡ 0 = let z : s.top - s.top ≡ 0 = omega arith in rw z (zero-mul (s.right - s.left)) in
    (none _ _ _ (no_rows_above s), rw e refl)

pub loop-row-preserved : goal.loop-row-preserved
loop-row-preserved g c =
    let a = c.args in
    let s = a.self.now.window.segment in
    let row = c.loop-row.row in
    let records = records_of a.delivery in
    let first = (row - s.top) * (s.right - s.left) in
    let new = segment_samples_by g.S.Store.picture g.T.Transform.meaning a.self.now records (drop a.start a.vectors.now) (cell_at s) in
    let part = segment_samples_by g.S.Store.picture g.T.Transform.meaning a.self.now (records_of c.loop-row.delivery) (drop (a.start + first) a.vectors.now) (column_at s) in (
      both (covers (rows_above s row)) (covers (row_in s row)) (covers (rows_above s (row + 1))) new
          _ (g.S.Store.picture c.loop-row.working) (g.S.Store.picture c.rebuild_row.new.working) c.loop-row.invariant.0
          (c.rebuild_row.ensures.samples
          ∙ agreeing _ part new (g.S.Store.picture c.loop-row.working) (λ q u v e. row_samples _ s _ _ records _ (drop a.start a.vectors.now) _ row first q u v refl c.loop-row.invariant.1 (sym (drop-drop first a.start a.vectors.now)) e))
          (λ q u v. rows_above_more s row q u v c.loop-row.auto.row),
      c.rebuild_row.ensures.records ∙ ap (drop (s.right - s.left)) c.loop-row.invariant.1 ∙ drop-drop (s.right - s.left) first records ∙ ap (λ k. drop k records) (row_cells row s.top (s.right - s.left) c.loop-row.auto.row),
    )

pub returns : goal.returns
returns g c =
    let s = c.args.self.now.window.segment in
    let end : c.loop-row.row ≡ s.bottom = omega (arith, c.loop-row.auto) in
    rw end at c.loop-row.invariant.0
