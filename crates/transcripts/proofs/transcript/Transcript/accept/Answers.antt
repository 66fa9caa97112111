use Rattle.std.proofs.Common.{false, refl, ◌++◌, codes}
use Rattle.transcripts.specs.Answers.{word_text}
use Rattle.transcripts.specs.Transcribed.{with_call, with_line}
use Rattle.transcripts.proofs.Transcribing.{transcribes_count, transcribes_then}
use Rattle.transcripts.proofs.transcript.Transcript.accept.Goals as goal

pub returns-clause-transcribed : goal.returns-clause-transcribed
returns-clause-transcribed c =
    transcribes_then (with_call false) (with_line (word_text c.args.word ++ codes " ok")) c.args.self.now c.count.new.self c.add.new.self
    (transcribes_count false c.args.self.now c.count.new.self c.count.ensures.calls c.count.ensures.refused c.count.ensures.text)
    (c.add.ensures.transcribed (word_text c.args.word ++ codes " ok") refl)
