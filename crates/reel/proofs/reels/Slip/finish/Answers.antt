use Rattle.std.proofs.Common.{◌≡◌, vec_items, sym, refl, ap, ◌∙◌}
use Rattle.std.proofs.lemmas.List.{with_items_is}
use Rattle.std.specs.Vec.{with_items}
use Rattle.calls.specs.Effects.{filled_ages}
use Rattle.reel.specs.Memories.{held_in}
use Rattle.calls.proofs.Sizes.{fitting}
use Rattle.reel.proofs.Holding.{closed_held}
use Rattle.reel.proofs.reels.Slip.finish.Goals as goal

pub returns : goal.returns
returns g c =
    let was = c.args.memory.now in
    let held = held_in g.S.Store.picture was in
    let size = fitting c.args.self.now.reel.format held c.requires in
    let ages = c.fill_ages.new.working in
    let kept : (with_items was.working_ages ages).items ≡ ages = with_items_is was.working_ages ages (c.fill_ages.auto.working ∙ c.deref_mut.ensures.len) in
    let lent : c.deref-2.result.now ≡ ages = c.deref-2.ensures.value ∙ kept in
    let finished = c.keep_ages.new.finished in
    let copied : (with_items was.finished_ages finished).items ≡ finished = with_items_is was.finished_ages finished (c.keep_ages.auto.finished ∙ c.deref_mut-2.ensures.len) in
    closed_held c.args.self.now.reel.format c.args.self.now.kind c.args.self.now.layout c.args.self.now.accepted held _ size
    c.fill_gaps.ensures
    c.copy_picture.ensures.whole
    (kept ∙ c.fill_ages.ensures
    ∙ ap (λ xs. filled_ages c.args.self.now.reel.format c.args.self.now.kind c.args.self.now.layout c.args.self.now.accepted xs c.deref_mut.result.now) c.deref.ensures.value
    ∙ ap (filled_ages c.args.self.now.reel.format c.args.self.now.kind c.args.self.now.layout c.args.self.now.accepted (vec_items was.finished_ages)) c.deref_mut.ensures.value)
    (copied ∙ c.keep_ages.ensures ∙ lent ∙ sym kept)
    refl refl
