use Rattle.transcripts.proofs.macroblocks.KeptDisplay.fmt.Goals as goal

pub returns-in-Inter-clause-writes : goal.returns-in-Inter-clause-writes
returns-in-Inter-clause-writes g c = rw (c.in-Inter.is, ← c.coefficients-count.ensures) c.write.ensures.writes

pub returns-in-Intra-clause-writes : goal.returns-in-Intra-clause-writes
returns-in-Intra-clause-writes g c = rw (c.in-Intra.is, ← c.coefficients-count-in-Intra.ensures) c.write-in-Intra.ensures.writes
