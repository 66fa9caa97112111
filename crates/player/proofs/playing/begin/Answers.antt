use Rattle.pictures.specs.Formats.{format_of_number}
use Rattle.player.proofs.Steps.{begun_plays}
use Rattle.player.proofs.playing.begin.Goals as goal

pub returns-in-Ok-new : goal.returns-in-Ok-new
returns-in-Ok-new c =
    begun_plays (format_of_number c.args.format) c.in-Ok.resting c.args.reel c.in-Ok-new.reel c.args.choices c.args.transcript.now c.leave.new.transcript c.accept.new.self
    c.in-Ok.ensures c.in-Ok-new.ensures.resting.0 c.in-Ok-new.ensures.resting.1 c.in-Ok-new.ensures.blank c.leave.ensures c.accept.ensures.transcribed
