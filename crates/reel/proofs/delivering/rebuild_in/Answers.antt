use Rattle.std.proofs.Common.{refl, ◌∙◌}
use Rattle.std.proofs.lemmas.List.{with_items_is}
use Rattle.rebuild.specs.Rebuilt.{count_of, delivery_records}
use Rattle.reel.specs.Memories.{held_in}
use Rattle.reel.proofs.Holding.{rebuilt_held}
use Rattle.reel.proofs.delivering.rebuild_in.Goals as goal

pub returns : goal.returns
returns g c =
    let was = c.args.memory.now in
    let after = c.rebuild_segment.new in
    let said = c.rebuild_segment.ensures in
    rebuilt_held (g.T.Transform.meaning c.args.transform.now) c.args.segment c.args.rounding
    (delivery_records c.args.kind (count_of c.args.segment) c.args.bytes.now)
    (held_in g.S.Store.picture was) _
    c.deref.result.now c.deref_mut.result.now c.deref_mut-2.result.now c.deref_mut-3.result.now after.ages after.vectors after.marks
    c.deref.ensures.value c.deref_mut.ensures.value c.deref_mut-2.ensures.value c.deref_mut-3.ensures.value
    said.ages said.vectors said.marks
    refl said.samples refl
    (with_items_is was.working_ages after.ages (c.rebuild_segment.auto.ages ∙ c.deref_mut.ensures.len))
    (with_items_is was.vectors after.vectors (c.rebuild_segment.auto.vectors ∙ c.deref_mut-2.ensures.len))
    (with_items_is was.marks after.marks (c.rebuild_segment.auto.marks ∙ c.deref_mut-3.ensures.len))
