use Rattle.std.proofs.Common.{arith}
use Rattle.std.proofs.lemmas.Bool.Decides.{nat_tests}
use Rattle.calls.specs.Questions.{in_grid}
use Rattle.reel.proofs.questions.has_cell.Goals as goal

pub returns-then-column-from : goal.returns-then-column-from
unfolding in_grid
returns-then-column-from c = record { value = grind (arith, nat_tests); few = grind (arith, nat_tests) }

pub returns-else-column-from : goal.returns-else-column-from
unfolding in_grid
returns-else-column-from c = record { value = grind (arith, nat_tests); few = grind (arith, nat_tests) }
