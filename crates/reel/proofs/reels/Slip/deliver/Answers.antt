use Rattle.std.proofs.Common.{◌<◌, Ok, length, sym, refl, ap, ◌∙◌, arith}
use Rattle.pictures.specs.declared.layouts.Segment.{Segment}
use Rattle.pictures.proofs.Rows.{segmented}
use Rattle.rebuild.specs.Rebuilt.{count_of, delivery_records}
use Rattle.calls.specs.Effects.{segment_rebuilt}
use Rattle.calls.specs.Held.{fits}
use Rattle.reel.specs.Calls.{held_after}
use Rattle.reel.specs.Memories.{held_in}
use Rattle.reel.proofs.Deliveries.{delivery_granted, size_delivered}
use Rattle.calls.proofs.Sizes.{fitting, some_column}
use Rattle.reel.proofs.Fits.{few_segments, room}
use Rattle.reel.proofs.reels.Slip.deliver.Goals as goal

pub rebuild_in-requires : goal.rebuild_in-requires
rebuild_in-requires g c =
    let slip = c.args.self in
    let was = c.args.memory.now in
    let held = held_in g.S.Store.picture was in
    let granted = delivery_granted slip held c.args.segment c.args.bytes.now c.in-Ok.counts c.in-Ok.ensures in
    let size = fitting slip.reel.format held granted.fitting in
    let laws = segmented slip.reel.format slip.layout in
    let is = c.segment-rectangle.ensures.value in
    let within = c.segment-rectangle.ensures.within in
    let P : Segment → Type 0 = λ s. (s.left < s.right) × (s.top < s.bottom) in
    let some : P c.segment-rectangle.result = rw is (some_column slip.reel.format, laws.some_row c.args.segment granted.numbered) in
    record {
      some_columns = some.0;
      few_columns = within.1.0;
      some_rows = some.1;
      few_rows = omega (arith, within.1.1.1);
      spans = rw is (refl, sym size.working_wide);
      readable = rw is granted.readable;
      room = rw is (record {
        of_finished = room slip.reel.format _ (length was.finished_ages.items) (laws.in_picture c.args.segment) size.finished_ages;
        of_ages = room slip.reel.format _ (length was.working_ages.items) (laws.in_picture c.args.segment) size.working_ages;
        of_vectors = room slip.reel.format _ (length was.vectors.items) (laws.in_picture c.args.segment) size.vectors;
        of_marks = room slip.reel.format _ (length was.marks.items) (laws.in_picture c.args.segment) size.marks;
      });
    }

pub with_mark-requires : goal.with_mark-requires
with_mark-requires g c =
    let slip = c.args.self in
    let held = held_in g.S.Store.picture c.args.memory.now in
    let granted = delivery_granted slip held c.args.segment c.args.bytes.now c.in-Ok.counts c.in-Ok.ensures in
    few_segments slip.reel.format slip.layout c.args.segment granted.numbered

pub returns : goal.returns
returns g c =
    let slip = c.args.self in
    let held = held_in g.S.Store.picture c.args.memory.now in
    let granted = delivery_granted slip held c.args.segment c.args.bytes.now c.in-Ok.counts c.in-Ok.ensures in
    let e = granted.judgement in
    let s = c.segment-rectangle.ensures.value in
    record {
      slip = rw e (ap (λ n. record {
        reel = slip.reel;
        kind = slip.kind;
        rounding = slip.rounding;
        layout = slip.layout;
        accepted = n;
        spent = slip.spent;
      }) c.with_mark.ensures);
      answer = rw e (ap Ok granted.counts_are);
      memory =
          rw e (c.rebuild_in.ensures
          ∙ ap (λ (x : Segment). segment_rebuilt (g.T.Transform.meaning c.args.transform.now) x slip.rounding (delivery_records slip.kind (count_of x) c.args.bytes.now) held) s);
      untouched = tt;
      format = refl;
      size =
          ap (fits slip.reel.format) (c.rebuild_in.ensures
          ∙ ap (λ (x : Segment). segment_rebuilt (g.T.Transform.meaning c.args.transform.now) x slip.rounding (delivery_records slip.kind (count_of x) c.args.bytes.now) held) s
          ∙ sym (ap (λ v. held_after (g.T.Transform.meaning c.args.transform.now) slip c.args.segment v held) e))
          ∙ size_delivered (g.T.Transform.meaning c.args.transform.now) slip held c.args.segment c.args.bytes.now;
    }
