use Rattle.transform.proofs.Columns.{Column}
use Rattle.transform.proofs.set_column.Given as goal

-- the numbers before this one are set
abbrev pub invariant-loop-n : goal.invariant-loop-n
invariant-loop-n l = Column l.column l.v l.n l.initial.x l.x
