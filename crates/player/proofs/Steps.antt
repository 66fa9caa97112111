-- What lines come to, step after step.
use Rattle.std.proofs.Common.{◌≡◌, IsSome, Some, None, Option, Ok, refl, sym, ap, ◌∙◌, subst, string_bytes}
use Rattle.std.specs.Option.{option_map}
use Rattle.calls.specs.Runs.{Calling, step}
use Rattle.transcripts.specs.declared.transcript.Transcript.{Transcript}
use Rattle.transcripts.specs.Transcribed.{Transcribed, Transcribes, transcribe_done, transcribed_in}
use Rattle.reels_in_memory.specs.declared.reel_in_memory.Choices.{Choices}
use Rattle.reels_in_memory.specs.declared.reel_in_memory.ReelInMemory.{ReelInMemory}
use Rattle.reels_in_memory.specs.Steps.{setting_in, state_in}
use Rattle.reels_in_memory.specs.Transcriptions.{miss_call, transcribe_call}
use Rattle.pictures.specs.declared.formats.Format.{Format}
use Rattle.reel.specs.Calls.{new_reel}
use Rattle.reel.specs.declared.reels.Reel.{Reel}
use Rattle.replay.specs.declared.Stage.TheVariants.{Resting}
use Rattle.replay.specs.Stages.{setting_at, state_of}
use Rattle.transcripts.specs.declared.answers.Word.TheVariants as word
use Rattle.transcripts.proofs.Options.{mapped, some_in, some_out}
use Rattle.transcripts.proofs.Transcribing.{transcribes_then}
use Rattle.reels_in_memory.specs.Memories.{blank, held_by}
use Rattle.transform.specs.Kinds.{meaning_of}
use Rattle.player.specs.Plays.{Played, Playing, begun, leaving, make_call, transcribing}
use Rattle.player.specs.PlayedIn.{Plays, played_in, playing_in}

abbrev pub view : Option ReelInMemory → Choices → Transcribed → Played
view reel choices t = record { store = choices.store; transform = choices.transform; reel = playing_in reel; transcribed = t }

-- what is transcribed, and reel and choices where memory sufficed
pub plays_from : (f : Played → Played) (g : Transcribed → Transcribed) (reel : Option ReelInMemory) (choices : Choices) (old : Transcript) (reel' : Option ReelInMemory) (choices' : Choices) (new : Transcript)
    → Transcribes g old new → (IsSome new.text → (t : Transcribed) → view reel' choices' (g t) ≡ f (view reel choices t)) → Plays f reel choices old reel' choices' new
plays_from f g reel choices old reel' choices' new p e =
    record {
      played = λ some. ap (option_map (view reel' choices')) (p.transcribed some) ∙ mapped g (view reel' choices') (λ t. f (view reel choices t)) (transcribed_in old) (e some)
          ∙ sym (mapped (view reel choices) f (λ t. f (view reel choices t)) (transcribed_in old) (λ t. refl));
    }

-- only the text changes
pub plays_transcribed : (g : Transcribed → Transcribed) (reel : Option ReelInMemory) (choices : Choices) (old new : Transcript) → Transcribes g old new → Plays (transcribing g) reel choices old reel choices new
plays_transcribed g reel choices old new p = plays_from (transcribing g) g reel choices old reel choices new p (λ some t. refl)

-- a call without a reel, and with one
pub missed_plays : (c : Calling) (choices : Choices) (old new : Transcript) → Transcribes (miss_call c) old new → Plays (make_call c) None choices old None choices new
missed_plays c choices old new p = plays_from (make_call c) (miss_call c) None choices old None choices new p (λ some t. refl)

pub made_plays : (c : Calling) (reel reel' : ReelInMemory) (choices : Choices) (old new : Transcript) → state_in reel' ≡ step (setting_in reel) (state_in reel) c → setting_in reel' ≡ setting_in reel
    → Transcribes (transcribe_call (setting_in reel) (state_in reel) c) old new → Plays (make_call c) (Some reel) choices old (Some reel') choices new
made_plays c reel reel' choices old new s w p =
    plays_from (make_call c) (transcribe_call (setting_in reel) (state_in reel) c) (Some reel) choices old (Some reel') choices new p
    (λ some t. ap (λ (r : Playing). record { store = choices.store; transform = choices.transform; reel = Some r; transcribed = transcribe_call (setting_in reel) (state_in reel) c t }) (λ i. record { setting = w i; state = s i }))

-- there was a text before
pub plays_had : (f : Played → Played) (reel : Option ReelInMemory) (choices : Choices) (old : Transcript) (reel' : Option ReelInMemory) (choices' : Choices) (new : Transcript) → Plays f reel choices old reel' choices' new → IsSome new.text → IsSome old.text
plays_had f reel choices old reel' choices' new p some =
    some_out _ old.text (some_out (view reel choices) (transcribed_in old) (some_out f (played_in reel choices old)
    (subst IsSome (p.played some) (some_in (view reel' choices') (transcribed_in new) (some_in (λ s. record { text = string_bytes s; calls = new.calls; refused = new.refused }) new.text some)))))

-- a new reel begins
pub begun_plays : (o : Option Format) (resting : Reel) (reel : Option ReelInMemory) (next : ReelInMemory) (choices : Choices) (x y z : Transcript) → Ok resting ≡ new_reel o
    → next.stage ≡ Resting resting → next.transform ≡ choices.transform → held_by next.memory ≡ blank resting.format → Transcribes (leaving (playing_in reel)) x y → Transcribes (transcribe_done word.New) y z
    → Plays (begun o) reel choices x (Some next) choices z
begun_plays None resting reel next choices x y z e s k h p q = absurd (cc)
begun_plays (Some format) resting reel next choices x y z e s k h p q =
    let r : resting ≡ record { format = format; pictures = 0; finished = None } = cc in
    let s' = s ∙ ap Resting r in
    let h' = h ∙ ap (λ (a : Reel). blank a.format) r in
    plays_from (begun (Some format)) (λ t. transcribe_done word.New (leaving (playing_in reel) t)) reel choices x (Some next) choices z (transcribes_then (leaving (playing_in reel)) (transcribe_done word.New) x y z p q)
    (λ some t. ap (λ (a : Playing). record { store = choices.store; transform = choices.transform; reel = Some a; transcribed = transcribe_done word.New (leaving (playing_in reel) t) })
    (λ i. record { setting = setting_at (s' i) (meaning_of (k i)) (h' i); state = state_of (s' i) (h' i) }))

-- What is left to play, rest, is what is left of all that was to be played from a start.
pub record Left (all : Played → Played) (reel₀ : Option ReelInMemory) (choices₀ : Choices) (old : Transcript) (rest : Played → Played) (reel : Option ReelInMemory) (choices : Choices) (now : Transcript) : Type 0 where
  pub left : IsSome now.text → option_map rest (played_in reel choices now) ≡ option_map all (played_in reel₀ choices₀ old)

module _ (all : Played → Played) (reel₀ : Option ReelInMemory) (choices₀ : Choices) (old : Transcript) where
  pub left_more : (rest f rest' : Played → Played) (reel : Option ReelInMemory) (choices : Choices) (now : Transcript) (reel' : Option ReelInMemory) (choices' : Choices) (new : Transcript)
      → Left all reel₀ choices₀ old rest reel choices now → Plays f reel choices now reel' choices' new → ((p : Played) → rest' (f p) ≡ rest p)
      → Left all reel₀ choices₀ old rest' reel' choices' new
  left_more rest f rest' reel choices now reel' choices' new was step e =
      record { left = λ some. ap (option_map rest') (step.played some) ∙ mapped f rest' rest (played_in reel choices now) e ∙ was.left (plays_had f reel choices now reel' choices' new step some) }
