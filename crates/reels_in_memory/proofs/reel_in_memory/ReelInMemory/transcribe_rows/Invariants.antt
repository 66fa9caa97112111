use Rattle.std.proofs.Common.{◌≡◌}
use Rattle.transcripts.specs.Transcribed.{Transcribes}
use Rattle.reels_in_memory.specs.Transcriptions.{transcribe_rows}
use Rattle.reels_in_memory.proofs.reel_in_memory.ReelInMemory.transcribe_rows.Given as goal

-- the rows so far are transcribed, and no call is counted
abbrev pub invariant-loop-row : goal.invariant-loop-row
invariant-loop-row l =
    record {
      transcribed : Transcribes (transcribe_rows l.columns l.table l.row) l.initial.transcript l.transcript;
      calls : l.transcript.calls ≡ l.initial.transcript.calls;
      refused : l.transcript.refused ≡ l.initial.transcript.refused;
    }
