use Rattle.samples.proofs.Corrections.{inner_size}
use Rattle.samples.proofs.deblocking.Four.inner.Goals as goal

pub returns : goal.returns
returns c = let h = inner_size c.args.strength c.args.self.now in cc
