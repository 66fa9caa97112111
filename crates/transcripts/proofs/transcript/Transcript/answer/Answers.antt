use Rattle.std.proofs.Common.{refl}
use Rattle.transcripts.specs.Answers.{answer_text}
use Rattle.transcripts.specs.Tallies.{is_refused}
use Rattle.transcripts.specs.Transcribed.{with_call, with_line}
use Rattle.transcripts.proofs.Transcribing.{transcribes_count, transcribes_then}
use Rattle.transcripts.proofs.transcript.Transcript.answer.Goals as goal

pub returns-clause-transcribed : goal.returns-clause-transcribed
returns-clause-transcribed c =
    transcribes_then (with_call (is_refused c.args.answer)) (with_line (answer_text c.args.word c.args.answer)) c.args.self.now c.count.new.self c.add.new.self
    (transcribes_count (is_refused c.args.answer) c.args.self.now c.count.new.self c.count.ensures.calls (rw (← c.is_refused.ensures) c.count.ensures.refused) c.count.ensures.text)
    (c.add.ensures.transcribed (answer_text c.args.word c.args.answer) refl)
