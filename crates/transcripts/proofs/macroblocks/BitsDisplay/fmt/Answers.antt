use Rattle.std.proofs.Common.{rules, false}
use Rattle.std.specs.Fmt.{digits}
use Rattle.transcripts.proofs.Padded.{zeros_before}
use Rattle.transcripts.proofs.macroblocks.BitsDisplay.fmt.Goals as goal

pub returns-clause-writes : goal.returns-clause-writes
returns-clause-writes g c = rw (← zeros_before 6 (digits 2 false c.args.self.now.pattern)) (search rules)
