use Rattle.std.proofs.Common.{sym, ◌∙◌, arith}
use Rattle.std.proofs.lemmas.List.{same_lists}
use Rattle.std.proofs.lemmas.Bool.Decides.{nat_tests}
use Rattle.tables.proofs.copy.Goals as goal

pub returns-clause-whole : goal.returns-clause-whole
returns-clause-whole g c e =
    same_lists c.copy_part.new.to c.args.from.now (c.copy_part.auto.to ∙ sym e) (λ k d h. c.copy_part.ensures k d ∙ grind (arith, nat_tests))
