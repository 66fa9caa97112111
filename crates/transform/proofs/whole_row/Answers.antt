use Rattle.std.proofs.Common.{◌^◌, arith}
use Rattle.transform.proofs.Rows.{cases8, quotient_of, quotient_is}
use Rattle.transform.proofs.whole_row.Goals as goal

pub of-requires-clause-within : goal.of-requires-clause-within
of-requires-clause-within c = quotient_of (2 ^ c.args.quotient.shift) _ 0 _ c.mirrored_sums-a.ensures.near c.mirrored_sums-a.ensures.small.0 (omega arith) c.requires.small

pub of-requires-2-clause-within : goal.of-requires-2-clause-within
of-requires-2-clause-within c = quotient_of (2 ^ c.args.quotient.shift) _ 1 _ c.mirrored_sums-b.ensures.near c.mirrored_sums-b.ensures.small.0 (omega arith) c.requires.small

pub of-requires-3-clause-within : goal.of-requires-3-clause-within
of-requires-3-clause-within c = quotient_of (2 ^ c.args.quotient.shift) _ 2 _ c.mirrored_sums-c.ensures.near c.mirrored_sums-c.ensures.small.0 (omega arith) c.requires.small

pub of-requires-4-clause-within : goal.of-requires-4-clause-within
of-requires-4-clause-within c = quotient_of (2 ^ c.args.quotient.shift) _ 3 _ c.mirrored_sums-d.ensures.near c.mirrored_sums-d.ensures.small.0 (omega arith) c.requires.small

pub of-requires-5-clause-within : goal.of-requires-5-clause-within
of-requires-5-clause-within c = quotient_of (2 ^ c.args.quotient.shift) _ 4 _ c.mirrored_sums-d.ensures.far c.mirrored_sums-d.ensures.small.1 (omega arith) c.requires.small

pub of-requires-6-clause-within : goal.of-requires-6-clause-within
of-requires-6-clause-within c = quotient_of (2 ^ c.args.quotient.shift) _ 5 _ c.mirrored_sums-c.ensures.far c.mirrored_sums-c.ensures.small.1 (omega arith) c.requires.small

pub of-requires-7-clause-within : goal.of-requires-7-clause-within
of-requires-7-clause-within c = quotient_of (2 ^ c.args.quotient.shift) _ 6 _ c.mirrored_sums-b.ensures.far c.mirrored_sums-b.ensures.small.1 (omega arith) c.requires.small

pub of-requires-8-clause-within : goal.of-requires-8-clause-within
of-requires-8-clause-within c = quotient_of (2 ^ c.args.quotient.shift) _ 7 _ c.mirrored_sums-a.ensures.far c.mirrored_sums-a.ensures.small.1 (omega arith) c.requires.small

pub returns : goal.returns
returns c =
    let is = quotient_is c.args.quotient.half (2 ^ c.args.quotient.shift) c.args.x.now in
    let a = c.mirrored_sums-a.ensures in
    let b = c.mirrored_sums-b.ensures in
    let m = c.mirrored_sums-c.ensures in
    let n = c.mirrored_sums-d.ensures in
    cases8 _
    (is 0 _ _ a.near a.small.0 (record { sfits = c.of.type_inv }) c.of.ensures)
    (is 1 _ _ b.near b.small.0 (record { sfits = c.of-2.type_inv }) c.of-2.ensures)
    (is 2 _ _ m.near m.small.0 (record { sfits = c.of-3.type_inv }) c.of-3.ensures)
    (is 3 _ _ n.near n.small.0 (record { sfits = c.of-4.type_inv }) c.of-4.ensures)
    (is 4 _ _ n.far n.small.1 (record { sfits = c.of-5.type_inv }) c.of-5.ensures)
    (is 5 _ _ m.far m.small.1 (record { sfits = c.of-6.type_inv }) c.of-6.ensures)
    (is 6 _ _ b.far b.small.1 (record { sfits = c.of-7.type_inv }) c.of-7.ensures)
    (is 7 _ _ a.far a.small.1 (record { sfits = c.of-8.type_inv }) c.of-8.ensures)
