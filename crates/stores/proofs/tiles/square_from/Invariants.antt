use Rattle.std.proofs.Common.{◌+◌, ◌*◌, ◌/◌, ◌%◌}
use Rattle.pictures.proofs.Squares.{Filled}
use Rattle.stores.specs.Tiles.{tiles_seen}
use Rattle.stores.proofs.tiles.square_from.Given as goal

-- the rows before this one are read
abbrev pub invariant-loop-row : goal.invariant-loop-row
invariant-loop-row l = Filled (λ k. (tiles_seen l.size.columns l.size.rows l.words).sample l.plane (l.across + k % 8) (l.down + k / 8)) (8 * l.row) l.values
