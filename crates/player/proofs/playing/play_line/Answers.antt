use Rattle.std.proofs.Common.{◌≡◌, Some, Ok, refl, rules}
use Rattle.call_lines.specs.declared.line.Line.TheVariants.{Call}
use Rattle.transcripts.specs.Answers.{misread_text}
use Rattle.transcripts.specs.Transcribed.{with_line}
use Rattle.player.proofs.Steps.{plays_transcribed}
use Rattle.player.proofs.playing.play_line.Goals as goal

pub returns-in-Err : goal.returns-in-Err
returns-in-Err c =
    rw c.in-Err.is (plays_transcribed (with_line (misread_text c.args.number c.in-Err.mistake)) c.args.reel c.args.choices.now c.args.transcript.now c.add.new.self
    (c.add.ensures.transcribed (misread_text c.args.number c.in-Err.mistake) refl))

pub returns-in-Ok-Some-Call : goal.returns-in-Ok-Some-Call
returns-in-Ok-Some-Call c =
    let is : c.args.line.now ≡ Ok (Some (Call c.in-Ok-Some-Call.call)) = search rules in
    rw (is, ← c.lent.ensures) (c.make_call.ensures c.args.choices.now)
