use Rattle.std.proofs.Common.{◌+◌, ◌<◌, ◌^◌, length, refl, sym, ap, arith}
use Rattle.records.specs.Again.{records_of}
use Rattle.transcripts.specs.Macroblocks.{numbered_text}
use Rattle.transcripts.specs.Transcribed.{with_line}
use Rattle.transcripts.proofs.Transcribing.{leads_more}
use Rattle.player.specs.Plays.{transcribe_macroblocks}
use Rattle.player.proofs.playing.transcribe_macroblocks.Goals as goal

pub loop-macroblock-preserved : goal.loop-macroblock-preserved
loop-macroblock-preserved c =
    let was = c.loop-macroblock.invariant in
    let index = c.loop-macroblock.index in
    let left = records_of c.next.new.self in
    let few : index + 1 + length left < 2 ^ 32 = omega (arith, was.2, ap length c.in-Some.ensures.steps) in (
      tt,
      tt,
      few,
      leads_more (transcribe_macroblocks 0 (records_of c.into_iter-macroblock-iterator.result)) (transcribe_macroblocks index (records_of c.loop-macroblock.macroblock-iterator)) (with_line (numbered_text index c.in-Some.macroblock))
          (transcribe_macroblocks (index + 1) left) c.args.transcript.now c.loop-macroblock.transcript c.add.new.self was.3 (c.add.ensures.transcribed (numbered_text index c.in-Some.macroblock) refl)
          (λ t. ap (λ xs. transcribe_macroblocks index xs t) (sym c.in-Some.ensures.steps)),
    )
