use Rattle.std.proofs.Common.{None}
use Rattle.transform.specs.declared.kinds.TransformKind.TheVariants.{TwoPass}
use Rattle.player.proofs.Onward.{all_played, played}
use Rattle.player.proofs.playing.play_lines.Goals as goal

pub loop-index-preserved : goal.loop-index-preserved
loop-index-preserved c =
    played c.args.lines.now None (record { store = c.args.store; transform = TwoPass }) c.args.transcript.now c.loop-index.index c.loop-index.reel c.loop-index.choices c.loop-index.transcript c.index-lines-index.result
    c.play_line-reel.result c.play_line-reel.new.choices c.play_line-reel.new.transcript c.loop-index.invariant c.index-lines-index.is c.loop-index-test.true c.play_line-reel.ensures

pub returns : goal.returns
returns c =
    all_played c.args.lines.now c.args.store c.args.transcript.now c.loop-index.index c.loop-index.reel c.loop-index.choices c.loop-index.transcript c.leave.new.transcript
    c.loop-index.invariant c.loop-index-test.false c.leave.ensures
