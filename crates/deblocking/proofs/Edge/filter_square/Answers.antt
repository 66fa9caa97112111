use Rattle.std.proofs.Common.{arith}
use Rattle.deblocking.specs.Edges.{is_vertical}
use Rattle.deblocking.proofs.Squared.{square_kept, square_deblocked}
use Rattle.deblocking.proofs.Edge.filter_square.Goals as goal

pub returns : goal.returns
returns g c =
    let e = c.args.self in
    let place = c.place-across.ensures in
    square_deblocked c.args.quantizer (is_vertical e.direction) (g.S.Store.picture c.args.store.now) e.plane c.args.along e.number _ c.middle-rows.result c.deblock_rows-new.result
    (omega arith) (rw (place.across, place.down) at c.read_square-square.ensures) c.middle-rows.ensures c.deblock_rows-new.ensures.value
    _ _ c.set_middle.ensures (rw (place.across, place.down) at c.write_square.ensures)

pub returns-then-is_same : goal.returns-then-is_same
returns-then-is_same g c =
    let e = c.args.self in
    let place = c.place-across.ensures in
    square_kept c.args.quantizer (is_vertical e.direction) (g.S.Store.picture c.args.store.now) e.plane c.args.along e.number _ c.middle-rows.result c.deblock_rows-new.result
    (omega arith) (rw (place.across, place.down) at c.read_square-square.ensures) c.middle-rows.ensures c.deblock_rows-new.ensures.value (c.is_same.ensures.0 c.if-is_same.true)
