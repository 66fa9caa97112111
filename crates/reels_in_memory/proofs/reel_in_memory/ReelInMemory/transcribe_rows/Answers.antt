use Rattle.std.proofs.Common.{◌≡◌, refl, ap, ◌∙◌, arith, ◌+◌, ◌-◌, ◌*◌, take, drop}
use Rattle.pictures.specs.Formats.{columns_of, rows_of}
use Rattle.reel.specs.declared.reels.Reel.{Reel}
use Rattle.replay.specs.Stages.{reel_of}
use Rattle.transcripts.specs.Answers.{ages_text}
use Rattle.transcripts.proofs.Transcribing.{transcribes_as, transcribes_then}
use Rattle.reels_in_memory.proofs.Transcribing.{row_more}
use Rattle.reels_in_memory.proofs.reel_in_memory.ReelInMemory.transcribe_rows.Goals as goal

pub loop-row-preserved : goal.loop-row-preserved
loop-row-preserved c =
    let more = c.add.ensures.transcribed (ages_text (take ((c.loop-row.row + 1) * c.columns-columns.result - c.loop-row.row * c.columns-columns.result) (drop (c.loop-row.row * c.columns-columns.result) c.ages-table.result.now))) refl in
    record {
      transcribed =
          transcribes_as _ _ c.args.transcript.now c.add.new.self (row_more c.columns-columns.result c.ages-table.result.now c.loop-row.row)
          (transcribes_then _ _ c.args.transcript.now c.loop-row.transcript c.add.new.self c.loop-row.invariant.transcribed more);
      calls = c.add.ensures.calls ∙ c.loop-row.invariant.calls;
      refused = c.add.ensures.refused ∙ c.loop-row.invariant.refused;
    }

pub returns-clause-transcribed : goal.returns-clause-transcribed
returns-clause-transcribed c =
    let format : c.format-format.result ≡ (reel_of c.args.self.now.stage).format = c.format-format.ensures ∙ ap (λ (r : Reel). r.format) c.reel.ensures in
    let columns : c.columns-columns.result ≡ columns_of (reel_of c.args.self.now.stage).format = c.columns-columns.ensures.value ∙ ap columns_of format in
    let all : c.loop-row.row ≡ c.rows-row-end.result = omega arith in
    let rows : c.loop-row.row ≡ rows_of (reel_of c.args.self.now.stage).format = all ∙ c.rows-row-end.ensures.value ∙ ap rows_of format in
    rw (← columns, ← rows, ← c.ages-table.ensures) c.loop-row.invariant.transcribed
