use Rattle.std.proofs.Common.{◌^◌}
use Rattle.transform.specs.Passes.{after_pass}
use Rattle.transform.proofs.Columns.{Columns}
use Rattle.transform.proofs.pass.Given as goal

-- the columns before this one are set
abbrev pub invariant-loop-v : goal.invariant-loop-v
invariant-loop-v l = Columns (after_pass l.x l.quotient.half (2 ^ l.quotient.shift)) l.v l.out
