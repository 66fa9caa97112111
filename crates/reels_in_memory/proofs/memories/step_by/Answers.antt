use Rattle.std.proofs.Common.{ap, ◌∙◌}
use Rattle.calls.specs.declared.answers.Answer.TheVariants.{Opened}
use Rattle.calls.specs.Held.{fits}
use Rattle.calls.specs.Runs.{call_of}
use Rattle.reel.specs.Memories.{held_in}
use Rattle.reels_in_memory.proofs.Kept.{made, unwritten}
use Rattle.reels_in_memory.proofs.memories.step_by.Goals as goal

pub returns : goal.returns
returns g c =
    let held = held_in g.S.Store.picture c.args.memory.now in
    let after = held_in g.S.Store.picture c.replay-stage.new.memory in
    let call = call_of c.args.call.now in
    let e = c.replay-stage.ensures in
    record {
      size = ap (λ format. fits format after) e.format ∙ e.size ∙ c.requires;
      made = made c.args.transform c.args.stage c.replay-stage.result held after call c.replay-stage.new.answers (Opened 0) e.runs e.format;
      untouched = λ none. e.untouched (unwritten c.args.transform c.args.stage c.replay-stage.result held after call c.replay-stage.new.answers (Opened 0) e.runs none);
    }
