use Rattle.player.proofs.Onward.{PlayedTo}
use Rattle.player.proofs.playing.play_lines.Given as goal

abbrev pub invariant-loop-index : goal.invariant-loop-index
invariant-loop-index l = PlayedTo l.lines l.initial.reel l.initial.choices l.initial.transcript l.index l.reel l.choices l.transcript
