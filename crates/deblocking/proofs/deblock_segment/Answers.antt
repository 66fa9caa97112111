use Rattle.deblocking.proofs.Locality.{local}
use Rattle.deblocking.proofs.deblock_segment.Goals as goal

pub returns-clause-local : goal.returns-clause-local
returns-clause-local g c = local c.args.segment
