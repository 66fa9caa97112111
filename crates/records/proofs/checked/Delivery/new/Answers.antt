use Rattle.std.proofs.Common.{arith}
use native.Mathlib.Nat.{sub-zero}
use Rattle.records.specs.Again.{records_of}
use Rattle.records.proofs.Onward.{accepted_reads}
use Rattle.records.proofs.Wholes.{all_there}
use Rattle.records.proofs.checked.Delivery.new.Goals as goal

pub invariant_of-result : goal.invariant_of-result
invariant_of-result c = record {
  within = omega arith;
  readable = simp (sub-zero, c.new.ensures) (accepted_reads _ _ _ c.requires).0;
}

pub returns : goal.returns
unfolding records_of
returns c =
    let e = (accepted_reads _ _ _ c.requires).1 in
    record { records = simp (sub-zero, c.new.ensures) e; count = simp (sub-zero, c.new.ensures) (all_there _ _ _ _ e) }
