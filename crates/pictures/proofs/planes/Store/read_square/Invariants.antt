use Rattle.std.proofs.Common.{◌+◌, ◌*◌, ◌/◌, ◌%◌}
use Rattle.pictures.proofs.Squares.{Filled}
use Rattle.pictures.proofs.planes.Store.read_square.Given as goal

-- the rows before this one are read
abbrev pub invariant-loop-row : goal.invariant-loop-row
invariant-loop-row g l = Filled (λ k. (g.Self.Store.picture l.self).sample l.plane (l.across + k % 8) (l.down + k / 8)) (8 * l.row) l.values

-- and this one before this column
abbrev pub invariant-loop-column : goal.invariant-loop-column
invariant-loop-column g l = Filled (λ k. (g.Self.Store.picture l.self).sample l.plane (l.across + k % 8) (l.down + k / 8)) (8 * l.row + l.column) l.values
