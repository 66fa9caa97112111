use Rattle.std.proofs.Common.{arith}
use Rattle.stores.proofs.InTiles.{lanes_shifted}
use Rattle.stores.proofs.tiles.shifted.Goals as goal

pub returns : goal.returns
returns c = λ j h.
    lanes_shifted c.args.first c.args.second c.from.result c.from-2.result c.args.skip j c.from.ensures c.from-2.ensures
    (omega (arith, c.ranges.first)) (omega (arith, c.ranges.second)) c.requires h
