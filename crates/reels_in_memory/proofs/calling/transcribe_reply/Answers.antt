use Rattle.std.proofs.Common.{refl}
use Rattle.calls.specs.Runs.{call_of}
use Rattle.reels_in_memory.specs.Memories.{held_by}
use Rattle.transcripts.specs.Sums.{sums_text}
use Rattle.reels_in_memory.proofs.Transcribing.{closed_transcribed}
use Rattle.reels_in_memory.proofs.calling.transcribe_reply.Goals as goal

pub returns-in-Closed-clause-transcribed : goal.returns-in-Closed-clause-transcribed
returns-in-Closed-clause-transcribed c =
    closed_transcribed (call_of c.args.call.now) c.args.answer c.in-Closed.marks (held_by c.args.memory.now) c.sums.result c.from.result c.args.transcript.now c.answer.new.self c.add.new.self
    c.from.ensures c.in-Closed.is c.sums.ensures c.answer.ensures.transcribed (c.add.ensures.transcribed (sums_text c.sums.result) refl)
