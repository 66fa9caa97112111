use Rattle.std.proofs.Common.{sym, arith}
use Rattle.pictures.proofs.Rows.{no_bit}
use Rattle.pictures.proofs.layouts.has_bit.Goals as goal

pub returns-in-None : goal.returns-in-None
returns-in-None c = sym (no_bit c.args.layout 32 c.args.bit (omega arith) (omega arith))
