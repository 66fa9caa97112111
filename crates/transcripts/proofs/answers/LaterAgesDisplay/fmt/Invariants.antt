use Rattle.std.proofs.Common.{take}
use Rattle.std.specs.Fmt.{HasWritten, IsPlainFormatter}
use Rattle.transcripts.specs.Answers.{later_ages}
use Rattle.transcripts.proofs.answers.LaterAgesDisplay.fmt.Given as goal

abbrev pub invariant-loop-age : goal.invariant-loop-age
invariant-loop-age g l = IsPlainFormatter l.initial.f → HasWritten g.W.Write.write_str_gives l.initial.f (later_ages (take l.age-index l.age-items)) l.f
