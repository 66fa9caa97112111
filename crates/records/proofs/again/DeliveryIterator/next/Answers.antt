use Rattle.std.proofs.Common.{arith}
use Rattle.records.specs.Reading.{unread_of}
use Rattle.records.specs.Again.{records_of}
use Rattle.records.proofs.Onward.{none_left, one_read}
use Rattle.records.proofs.again.DeliveryIterator.next.Goals as goal

pub returns-in_err-macroblock-clause-steps : goal.returns-in_err-macroblock-clause-steps
unfolding records_of
returns-in_err-macroblock-clause-steps c =
    let at = c.in_err-macroblock.ensures.steps in
    rw c.from_residual.ensures (none_left _ _ _ (unread_of c.args.self.now.words) (omega (arith, at)), none_left _ _ _ (unread_of c.args.self.now.words) (omega (arith, at)))

pub invariant_of-self-2 : goal.invariant_of-self-2
invariant_of-self-2 c =
    let d = c.args.self.now in
    let at = c.in_ok-macroblock.ensures.steps in
    let one = one_read d.kind _ _ (unread_of d.words) d.readable _ _ _ (unread_of c.read_macroblock.new.self) c.read_macroblock.result at.0 at.1.0 at.1.1 at.1.2 c.read_macroblock.ensures in
    record { within = omega (arith, at); readable = one.readable }

pub returns-clause-steps : goal.returns-clause-steps
unfolding records_of
returns-clause-steps c =
    let d = c.args.self.now in
    let at = c.in_ok-macroblock.ensures.steps in
    let one = one_read d.kind _ _ (unread_of d.words) d.readable _ _ _ (unread_of c.read_macroblock.new.self) c.read_macroblock.result at.0 at.1.0 at.1.1 at.1.2 c.read_macroblock.ensures in
    rw (c.ok.ensures.value, one.came) one.records

pub returns-clause-goes : goal.returns-clause-goes
unfolding records_of
returns-clause-goes c =
    let d = c.args.self.now in
    let at = c.in_ok-macroblock.ensures.steps in
    let one = one_read d.kind _ _ (unread_of d.words) d.readable _ _ _ (unread_of c.read_macroblock.new.self) c.read_macroblock.result at.0 at.1.0 at.1.1 at.1.2 c.read_macroblock.ensures in
    rw (c.ok.ensures.value, one.came) (record { on = λ _. (tt, tt, rw one.records (omega arith)); keeps = tt; rests = λ _. tt })
