use Rattle.std.proofs.Common.{◌≡◌, refl, ap, rules}
use Rattle.calls.specs.declared.answers.Answer.TheVariants.{Delivered}
use Rattle.calls.specs.Runs.{call_of}
use Rattle.calls.specs.declared.answers.Call.TheVariants.{Deliver as delivering}
use Rattle.replay.specs.declared.Stage.TheVariants.{Open}
use Rattle.reel.specs.Memories.{held_in}
use Rattle.replay.proofs.Turns.{answer_by, turn_deliver, turn_from, unwritten}
use Rattle.replay.proofs.step.Goals as goal

pub returns-in-Open-Deliver : goal.returns-in-Open-Deliver
returns-in-Open-Deliver g c =
    let a = c.in-Open-Deliver in
    let meaning = g.T.Transform.meaning c.args.transform.now in
    let held = held_in g.S.Store.picture c.args.memory.now in
    let d = c.deliver-given.ensures in
    let e : c.answer_to.result ≡ answer_by Delivered c.deliver-given.result.1 = search rules in
    let t =
    turn_from meaning c.args.stage (Open a.slip) held (call_of c.args.call.now) (delivering a.segment a.bytes.now) _ _ _
    a.is-0 (ap call_of a.is-1)
    (turn_deliver meaning held a.slip _ a.segment a.bytes.now _ _ c.answer_to.result _ refl d.slip d.answer e d.memory) in
    record {
      state = t.state;
      answer = t.answer;
      format = t.format;
      unspent = t.unspent;
      stays = t.stays;
      untouched = unwritten c.deliver-given.result.1 c.answer_to.result _ e d.untouched;
    }
