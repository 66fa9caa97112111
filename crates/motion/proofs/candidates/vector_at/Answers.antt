use Rattle.std.proofs.Common.{rules}
use Rattle.std.proofs.lemmas.Option.{unwrap_or-slice_get}
use Rattle.motion.specs.Vectors.{zero_vector}
use Rattle.motion.proofs.candidates.vector_at.Goals as goal

pub returns : goal.returns
returns c = let e = unwrap_or-slice_get c.args.vectors.now c.args.place zero_vector in search rules
