use Rattle.std.proofs.Common.{◌≡◌, ◌/◌, length, Ok, Result, rules}
use Rattle.records.specs.declared.faults.SegmentFault.{SegmentFault}
use Rattle.records.specs.declared.types.Delivered.{Delivered}
use Rattle.records.specs.Deliveries.{answered}
use Rattle.records.proofs.Deliveries.{accepted_is, answered_is}
use Rattle.records.proofs.delivery.check_delivery.Goals as goal

pub returns-clause-readable : goal.returns-clause-readable
returns-clause-readable c =
    let counts : Delivered = record { words = length c.args.bytes.now / 4; intra = c.in_ok-intra.intra } in
    let value : ◌≡◌ {A = Result Delivered SegmentFault} (Ok counts) (answered c.args.kind c.args.macroblocks c.args.bytes.now) = search (rules, answered_is) in
    accepted_is c.args.kind c.args.macroblocks c.args.bytes.now (Ok counts) value
