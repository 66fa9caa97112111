use Rattle.std.proofs.Common.{◌≡◌, drop, take}
use Rattle.calls.specs.Runs.{calls_of}
use Rattle.reel.specs.Memories.{held_in}
use Rattle.replay.specs.Stages.{NoneWrites}
use Rattle.replay.proofs.Replays.{Left}
use Rattle.replay.proofs.replay.Given as goal

-- what is left to run gives, after what is done, the whole run; the room that is left is as it was, and so is the memory where nothing was written
abbrev pub invariant-loop-index : goal.invariant-loop-index
invariant-loop-index g l =
    record {
      left : Left (g.T.Transform.meaning l.transform) l.initial.stage (held_in g.S.Store.picture l.initial.memory) (calls_of l.made) (calls_of (drop l.index l.made))
          l.stage (held_in g.S.Store.picture l.memory) (take l.index l.answers);
      room : drop l.index l.answers ≡ drop l.index l.initial.answers;
      untouched : NoneWrites (take l.index l.answers) → l.memory ≡ l.initial.memory;
    }
