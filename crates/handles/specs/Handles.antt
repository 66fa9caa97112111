-- What C holds of a reel, and one call on it.
use Rattle.std.specs.Prelude.{◌≡◌, ℕ, false, List, Some, None, Option}
use Rattle.std.specs.Borrow.{Lends, MutBor}
use Rattle.std.specs.Box.Ownership.{box_owns}
use Rattle.std.specs.contracts.impls.GlobalAllocator.TheImpl.{ghosts as allocator}
use base.Fml.{Fml, ftrue}
use denote.RawPtr.{Ptr}
use Rattle.pictures.specs.Pictures.{Picture}
use Rattle.calls.specs.Laws.{granted}
use Rattle.calls.specs.Runs.{Calling, reply, Setting, State, step}
use Rattle.replay.specs.Stages.{writes}
use Rattle.reels_in_memory.specs.Steps.{setting_in, state_in}
use Rattle.handles.specs.declared.answer.AnswerNumbers.{AnswerNumbers}
use Rattle.handles.specs.declared.handle.ReelHandle.{ReelHandle}
use Rattle.handles.specs.contracts.handle.ReelHandle.{the_row as handle_row}
use Rattle.handles.specs.declared.kept.KeptReel.{KeptReel}
use Rattle.handles.specs.contracts.kept.KeptReel.{the_row as kept_row}
use Rattle.handles.specs.Numbers.{numbers_of}

-- a handle lies there, with all that it owns, and its block may be freed
abbrev pub handle_owned : Ptr → ReelHandle → Fml
handle_owned p h = box_owns (allocator.dealloc_token h.alloc) handle_row p h

-- what a place for a pointer owns: nothing where no handle lies behind it
abbrev pub slot_owns : Ptr → Option ReelHandle → Fml
slot_owns p None = ftrue
slot_owns p (Some h) = handle_owned p h

-- the handle with another reel behind it
abbrev pub with_kept : ReelHandle → KeptReel → ReelHandle
with_kept h k = record { at = h.at; alloc = h.alloc; kept = k }

-- the handle ends with the last reel behind r
abbrev pub LendsKept : MutBor ReelHandle → MutBor KeptReel → Fml
LendsKept h r = Lends handle_row kept_row h r (with_kept h.now)

-- the reel behind a handle, and what its memory holds
abbrev pub state_behind : ReelHandle → State
state_behind h = state_in h.kept.reel

-- its format, the meaning of its transform, and that its memory has its size
abbrev pub setting_behind : ReelHandle → Setting
setting_behind h = setting_in h.kept.reel

-- the finished picture of its memory, and the ages of that
abbrev pub finished_behind : ReelHandle → Picture
finished_behind h = (state_behind h).contents.held.finished

abbrev pub ages_behind : ReelHandle → List ℕ
ages_behind h = (state_behind h).contents.held.finished_ages

-- What one call makes of what lies behind a handle, and its answer in numbers. The very stage stays where the call is not accepted, and the very memory where
-- nothing is written.
pub record Answered (h : ReelHandle) (call : Calling) (h' : ReelHandle) (numbers : AnswerNumbers) : Type 0 where
  pub state : state_behind h' ≡ step (setting_behind h) (state_behind h) call
  pub answer : numbers ≡ numbers_of (reply (setting_behind h) (state_behind h) call)
  pub setting : setting_behind h' ≡ setting_behind h
  pub stays : granted (reply (setting_behind h) (state_behind h) call) ≡ false → h'.kept.reel.stage ≡ h.kept.reel.stage
  pub untouched : writes (reply (setting_behind h) (state_behind h) call) ≡ false → h'.kept.reel.memory ≡ h.kept.reel.memory
