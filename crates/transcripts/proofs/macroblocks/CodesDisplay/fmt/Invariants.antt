use Rattle.std.proofs.Common.{take}
use Rattle.std.specs.Fmt.{HasWritten, IsPlainFormatter}
use Rattle.transcripts.specs.Macroblocks.{dcs_text}
use Rattle.transcripts.proofs.macroblocks.CodesDisplay.fmt.Given as goal

abbrev pub invariant-loop-block : goal.invariant-loop-block
invariant-loop-block g l = IsPlainFormatter l.initial.f → HasWritten g.W.Write.write_str_gives l.initial.f (dcs_text (take l.block-index l.block-items)) l.f
