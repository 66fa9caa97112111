use Rattle.std.proofs.Common.{◌≡◌, true, refl, sym, subst}
use Rattle.calls.specs.declared.answers.Answer.TheVariants.{Closed}
use Rattle.calls.specs.Held.{fits}
use Rattle.replay.specs.Stages.{format_of, setting_at, state_of}
use Rattle.transcripts.specs.declared.answers.Word.TheVariants as word
use Rattle.transcripts.specs.Answers.{answer_text}
use Rattle.transcripts.specs.Sums.{sums_text}
use Rattle.transcripts.specs.Transcribed.{Transcribes}
use Rattle.reels_in_memory.specs.Memories.{held_by}
use Rattle.transform.specs.Kinds.{meaning_of}
use Rattle.reels_in_memory.specs.Transcriptions.{transcribe_leaving}
use Rattle.reels_in_memory.proofs.Transcribing.{left_transcribed}
use Rattle.reels_in_memory.proofs.reel_in_memory.ReelInMemory.leave.Goals as goal

pub returns-clause-transcribed : goal.returns-clause-transcribed
returns-clause-transcribed c =
    let h = held_by c.args.self.memory in
    let m = meaning_of c.args.self.transform in
    let fit : fits c.in-Open.slip.reel.format h ≡ true = subst (λ s. fits (format_of s) h ≡ true) c.in-Open.is c.args.self.fit in
    subst (λ s. Transcribes (transcribe_leaving (setting_at s m h) (state_of s h)) c.args.transcript.now c.add-in-Open.new.self) (sym c.in-Open.is)
    (left_transcribed m c.in-Open.slip h (held_by c.close-marks.new.self) c.close-marks.result c.sums.result c.args.transcript.now c.add.new.self c.add-in-Open.new.self
    fit c.close-marks.ensures.marks c.close-marks.ensures.memory c.sums.ensures
    (c.add.ensures.transcribed (answer_text word.Close (Closed c.close-marks.result)) refl) (c.add-in-Open.ensures.transcribed (sums_text c.sums.result) refl))
