use Rattle.std.proofs.Common.{◌+◌, ◌<◌, ◌^◌, length}
use Rattle.records.specs.Again.{records_of}
use Rattle.transcripts.proofs.Transcribing.{Leads}
use Rattle.player.specs.Plays.{transcribe_macroblocks}
use Rattle.player.proofs.playing.transcribe_macroblocks.Given as goal

-- the macroblocks left are to be transcribed
abbrev pub invariant-loop-macroblock : goal.invariant-loop-macroblock
invariant-loop-macroblock l =
    (goal.iterator-loop-macroblock).can_next l.macroblock-iterator ×
    (goal.iterator-loop-macroblock).is_finite l.macroblock-iterator ×
    (l.index + length (records_of l.macroblock-iterator) < 2 ^ 32) ×
    Leads (transcribe_macroblocks 0 (records_of l.initial.macroblock-iterator)) l.initial.transcript (transcribe_macroblocks l.index (records_of l.macroblock-iterator)) l.transcript
