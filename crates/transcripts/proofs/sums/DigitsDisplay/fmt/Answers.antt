use Rattle.std.proofs.Common.{rules, false}
use Rattle.std.specs.Fmt.{digits}
use Rattle.transcripts.proofs.Padded.{zeros_before}
use Rattle.transcripts.proofs.sums.DigitsDisplay.fmt.Goals as goal

pub returns-clause-writes : goal.returns-clause-writes
returns-clause-writes g c = rw (← zeros_before 8 (digits 16 false c.args.self.now.sum)) (search rules)
