use Rattle.transform.proofs.Quantized.{size_none, size_even, size_odd}
use Rattle.transform.proofs.levels.rebuilt_size.Goals as goal

pub returns-then-level-eq0 : goal.returns-then-level-eq0
returns-then-level-eq0 c = size_none c.args.quantizer c.args.level c.if-level-eq0.true

pub returns-then-quantizer-eq0 : goal.returns-then-quantizer-eq0
returns-then-quantizer-eq0 c = let e = size_even c.args.quantizer c.args.level c.if-level-eq0.false c.if-quantizer-eq0.true in cc

pub returns-else-quantizer-eq0 : goal.returns-else-quantizer-eq0
returns-else-quantizer-eq0 c = let e = size_odd c.args.quantizer c.args.level c.if-level-eq0.false c.if-quantizer-eq0.false in cc
