use Rattle.std.proofs.Common.{map, ap, ◌∙◌}
use Rattle.call_lines.specs.Lines.{line_meant}
use Rattle.player.proofs.Onward.{all_answered}
use Rattle.player.proofs.playing.play.Goals as goal

pub returns : goal.returns
returns c =
    all_answered c.args.store c.args.script.now c.as_slice.result.now c.finish.result c.new-transcript.result c.play_lines.new.transcript
    (ap (map line_meant) c.as_slice.ensures.value ∙ c.in_ok-lines.ensures)
    c.new-transcript.ensures.text c.new-transcript.ensures.calls c.new-transcript.ensures.refused c.play_lines.ensures c.finish.ensures
