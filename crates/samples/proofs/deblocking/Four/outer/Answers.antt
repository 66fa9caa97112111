use Rattle.samples.proofs.Corrections.{outer_size_is}
use Rattle.samples.proofs.deblocking.Four.outer.Goals as goal

pub returns : goal.returns
returns c = let h = outer_size_is c.args.strength c.args.self.now in let i = c.inner.ensures in cc
