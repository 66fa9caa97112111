use Rattle.std.proofs.Common.{◌+◌, arith}
use Rattle.pictures.proofs.Addresses.{inside_before}
use Rattle.stores.proofs.tiles.square_from.Goals as goal

pub eight_from-eight-requires-clause-inside : goal.eight_from-eight-requires-clause-inside
eight_from-eight-requires-clause-inside c = inside_before _ _ _ (c.args.across + 7) (c.args.down + c.loop-row.row) (c.args.across + 7) (c.args.down + 7) (omega arith) (omega arith) c.requires.inside
