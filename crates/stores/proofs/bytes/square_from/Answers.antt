use Rattle.std.proofs.Common.{◌+◌, ◌*◌, ◌/◌, ◌%◌, arith}
use Rattle.stores.proofs.bytes.square_from.Goals as goal

pub returns-clause-small : goal.returns-clause-small
returns-clause-small c = λ k h. rw (c.loop-row.invariant.1 k (omega arith)) (omega (arith, c.type_inv.bytes (c.args.at + k / 8 * c.args.stride + k % 8)))
