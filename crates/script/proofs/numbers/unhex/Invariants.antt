use Rattle.std.proofs.Common.{◌≡◌, drop, vec_items}
use Rattle.script.specs.Numbers.{pairs_of}
use Rattle.script.proofs.Pairs.{before, paired}
use Rattle.script.proofs.numbers.unhex.Given as goal

-- the bytes made, and those that the pairs left make, are all
abbrev pub invariant-loop-first : goal.invariant-loop-first
invariant-loop-first l = before (vec_items l.bytes) (paired (drop l.first-index l.pairs)) ≡ pairs_of l.digits
