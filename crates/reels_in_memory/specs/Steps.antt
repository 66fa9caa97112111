-- A reel with its memory, as runs have it, and one call on it.
use Rattle.std.specs.Prelude.{◌≡◌, false}
use Rattle.calls.specs.declared.answers.Answer.{Answer}
use Rattle.calls.specs.Laws.{granted}
use Rattle.calls.specs.Runs.{Calling, reply, Setting, State, step}
use Rattle.replay.specs.Stages.{setting_at, state_of, writes}
use Rattle.reels_in_memory.specs.declared.reel_in_memory.ReelInMemory.{ReelInMemory}
use Rattle.reels_in_memory.specs.Memories.{held_by}
use Rattle.transform.specs.Kinds.{meaning_of}

-- its format, the meaning of its transform, and that its memory has its size
abbrev pub setting_in : ReelInMemory → Setting
setting_in s = setting_at s.stage (meaning_of s.transform) (held_by s.memory)

-- the reel and what its memory holds
abbrev pub state_in : ReelInMemory → State
state_in s = state_of s.stage (held_by s.memory)

-- What one call makes of a reel with its memory, and its answer. The transform is as it was; so is the very stage where the call is not accepted, and the very
-- memory where nothing is written.
pub record Turned (reel : ReelInMemory) (call : Calling) (reel' : ReelInMemory) (a : Answer) : Type 0 where
  pub state : state_in reel' ≡ step (setting_in reel) (state_in reel) call
  pub answer : a ≡ reply (setting_in reel) (state_in reel) call
  pub setting : setting_in reel' ≡ setting_in reel
  pub transform : reel'.transform ≡ reel.transform
  pub stays : granted a ≡ false → reel'.stage ≡ reel.stage
  pub untouched : writes a ≡ false → reel'.memory ≡ reel.memory
