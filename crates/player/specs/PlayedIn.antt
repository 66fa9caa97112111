-- What reel, choices and transcript have come to.
use Rattle.std.specs.Prelude.{◌≡◌, IsSome, Option}
use Rattle.std.specs.Option.{option_map}
use Rattle.transcripts.specs.declared.transcript.Transcript.{Transcript}
use Rattle.transcripts.specs.Transcribed.{transcribed_in}
use Rattle.reels_in_memory.specs.declared.reel_in_memory.Choices.{Choices}
use Rattle.reels_in_memory.specs.declared.reel_in_memory.ReelInMemory.{ReelInMemory}
use Rattle.reels_in_memory.specs.Steps.{setting_in, state_in}
use Rattle.player.specs.Plays.{Played, Playing}

abbrev pub playing_in : Option ReelInMemory → Option Playing
playing_in reel = option_map (λ s. record { setting = setting_in s; state = state_in s }) reel

-- where memory sufficed so far
abbrev pub played_in : Option ReelInMemory → Choices → Transcript → Option Played
played_in reel choices transcript = option_map (λ t. record { store = choices.store; transform = choices.transform; reel = playing_in reel; transcribed = t }) (transcribed_in transcript)

-- where memory sufficed, what is come to is what f makes of what there was
pub record Plays (f : Played → Played) (reel : Option ReelInMemory) (choices : Choices) (old : Transcript) (reel' : Option ReelInMemory) (choices' : Choices) (new : Transcript) : Type 0 where
  pub played : IsSome new.text → played_in reel' choices' new ≡ option_map f (played_in reel choices old)
