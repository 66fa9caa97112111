use Rattle.std.proofs.Common.{◌*◌}
use Rattle.transform.specs.Coefficients.{SetBefore}
use Rattle.transform.proofs.levels.from_levels.Given as goal

abbrev pub invariant-loop-eight : goal.invariant-loop-eight
invariant-loop-eight l = SetBefore l.quantizer l.levels (8 * l.eight) l.out
