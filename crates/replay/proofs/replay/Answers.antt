use Rattle.std.proofs.Common.{◌≡◌, ℕ, ◌+◌, ◌<◌, false, List, [], ◌∷◌, ◌++◌, Some, length, min, take, drop, set, sym, refl, ap, ◌∙◌, subst, arith, length-take}
use Rattle.std.proofs.lemmas.List.{drop-drop, drop-set-lt, drop_all, drop_min, drop_more, take_min, take_more_set}
use Rattle.std.proofs.lemmas.List.Elements.{All-pop}
use Rattle.calls.specs.declared.answers.Answer.{Answer}
use denote.Ref.{Bor}
use Rattle.calls.specs.declared.answers.Call.{Call}
use Rattle.calls.specs.declared.answers.Call.TheVariants.{Open}
use Rattle.calls.specs.Runs.{calls_of}
use Rattle.calls.proofs.Law.{law}
use Rattle.reel.specs.Memories.{held_in}
use Rattle.replay.specs.Stages.{NoneWrites, Replayed, writes}
use Rattle.replay.proofs.Replays.{all_done, none_done, one_done, size_kept}
use Rattle.replay.proofs.replay.Goals as goal

-- one answer more is laid to the room
room_more : (answers initial : List Answer) (i : ℕ) (a : Answer) → drop i answers ≡ drop i initial → drop (i + 1) (set answers i a) ≡ drop (i + 1) initial
room_more answers initial i a was = drop-set-lt (i + 1) answers i a (omega arith) ∙ sym (drop-drop 1 i answers) ∙ ap (drop 1) was ∙ drop-drop 1 i initial

pub loop-index-init : goal.loop-index-init
loop-index-init g c = record { left = none_done _ _ _ _; room = refl; untouched = λ _. refl }

pub loop-index-preserved : goal.loop-index-preserved
loop-index-preserved g c =
    let answers = c.loop-index.answers in
    let i = c.loop-index.index in
    let was = c.loop-index.invariant in
    let made = c.with_room-made.result.now in
    let answer = c.step-next.result.1 in
    let below : i < length answers = omega (arith, ap length c.with_room-made.ensures, length-take (length c.args.answers.now) c.args.calls.now) in
    let more : take (i + 1) (set answers i answer) ≡ take i answers ++ (answer ∷ []) = take_more_set answers i answer below in
    record {
      left =
          one_done _ _ _ _ _ _ _ _ _ _ _ _ _ _ was.left (ap calls_of (drop_more made i (Open 0 0 0) c.loop-index-test.true))
          c.step-next.ensures.state c.step-next.ensures.answer c.step-next.ensures.format c.step-next.ensures.unspent c.step-next.ensures.stays more;
      room = room_more answers c.args.answers.now i answer was.room;
      untouched = λ none. let apart = All-pop (λ a. writes a ≡ false) _ (take i answers) (Some answer) more none in c.step-next.ensures.untouched apart.1 ∙ was.untouched apart.0;
    }

pub returns : goal.returns
returns g c =
    let answers = c.loop-index.answers in
    let calls = c.args.calls.now in
    let i = c.loop-index.index in
    let was = c.loop-index.invariant in
    let made = c.with_room-made.result.now in
    let all : i ≡ min (length calls) (length answers) = omega (arith, ap length c.with_room-made.ensures, length-take (length c.args.answers.now) calls) in
    let same : min (length calls) (length answers) ≡ min (length calls) (length c.args.answers.now) = omega arith in
    let front : take i answers ≡ take (length calls) answers = ap (λ k. take k answers) all ∙ take_min (length calls) answers in
    let done = all_done _ _ _ _ _ _ _ _ was.left (ap calls_of (drop_all i made c.loop-index-test.false)) in
    let P : List (Call (Bor (List ℕ))) → List Answer → Type 0 = λ cs answer.
    Replayed (g.T.Transform.meaning c.args.transform.now) c.args.stage (held_in g.S.Store.picture c.args.memory.now) (calls_of cs) c.loop-index.stage (held_in g.S.Store.picture c.loop-index.memory) answer in
    record {
      runs = subst (λ cs. P cs (take (length calls) answers)) c.with_room-made.ensures (subst (P made) front done);
      rest =
          sym (ap (λ k. drop k answers) all ∙ drop_min (length calls) answers)
          ∙ was.room
          ∙ ap (λ k. drop k c.args.answers.now) (all ∙ same)
          ∙ drop_min (length calls) c.args.answers.now;
      untouched = λ none. was.untouched (subst NoneWrites (sym front) none);
      format = was.left.format;
      size = size_kept _ _ _ _ _ _ _ _ was.left;
      law = law;
    }
