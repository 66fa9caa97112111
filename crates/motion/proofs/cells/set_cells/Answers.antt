use Rattle.std.proofs.Common.{◌≡◌, [], ◌∷◌, ◌++◌, length, get_or, take, sym, refl, ap, ◌∙◌, arith}
use Rattle.std.proofs.lemmas.List.{length-take-le}
use Rattle.records.specs.Again.{records_of}
use Rattle.records.specs.Deliveries.{is_intra}
use Rattle.samples.specs.Ages.{next_age}
use Rattle.motion.specs.Cells.{ages_of, marks_of}
use Rattle.motion.specs.Vectors.{vector_for, vectors_after, vectors_of}
use Rattle.motion.proofs.Gathered.{ages_length, ages_push, cell_more, marks_length, marks_push, next_of, vector_value, vectors_length, vectors_push}
use Rattle.motion.proofs.cells.set_cells.Goals as goal

pub loop-i-init : goal.loop-i-init
unfolding ages_of marks_of vectors_after vectors_of
loop-i-init c = simp (c.into_iter-i-iterator.ensures.into_iter_gives, c.enumerate-i-items.ensures.source, c.enumerate-i-items.ensures.count) (refl, omega arith, refl, refl, refl)

pub loop-i-preserved : goal.loop-i-preserved
loop-i-preserved c =
    let records = records_of c.args.delivery in
    let i = c.loop-i.i-iterator.count in
    let came = c.in-Some.ensures.steps in
    let n = next_of records i _ _ (sym c.loop-i.invariant.0 ∙ came.0) in
    let done = take i records in
    let size : length done ≡ i = length-take-le i records c.loop-i.invariant.1 in
    rw (came.1, came.2) (
      n.left,
      omega (arith, n.within),
      cell_more _ _ (ages_of done c.args.finished.now) _ i _ c.loop-i.invariant.2 (ages_length done _ ∙ size) (omega (arith, n.within, c.requires.room.of_ages))
          (ap (λ ms. ages_of ms c.args.finished.now) n.more ∙ ages_push done _ _
          ∙ ap (λ v. ages_of done c.args.finished.now ++ (v ∷ [])) (sym (c.next_age.ensures ∙ ap (λ b. next_age b (get_or c.args.finished.now c.in-Some.i 0)) c.is_intra.ensures ∙ ap (λ k. next_age (is_intra c.in-Some.macroblock) (get_or c.args.finished.now k 0)) (came.1 ∙ sym size)))),
      cell_more _ _ (vectors_of c.args.columns done) _ i _ c.loop-i.invariant.3 (vectors_length _ done ∙ size) (omega (arith, n.within, c.requires.room.of_vectors))
          (ap (λ ms. vectors_of c.args.columns ms) n.more ∙ vectors_push _ done _
          ∙ ap (λ v. vectors_of c.args.columns done ++ (v ∷ [])) (sym (vector_value c.args.columns (vectors_of c.args.columns done) _ i (length done) c.in-Some.macroblock _ (omega arith) (vectors_length _ done ∙ size) size (c.vector_for.ensures ∙ ap (λ k. vector_for c.args.columns c.loop-i.vectors k c.in-Some.macroblock) came.1 ∙ ap (λ t. vector_for c.args.columns t i c.in-Some.macroblock) c.loop-i.invariant.3)))),
      cell_more _ _ (marks_of done) _ i _ c.loop-i.invariant.4 (marks_length done ∙ size) (omega (arith, n.within, c.requires.room.of_marks))
          (ap marks_of n.more ∙ marks_push done _ ∙ ap (λ v. marks_of done ++ (v ∷ [])) (sym c.mark_of.ensures)),
    )
