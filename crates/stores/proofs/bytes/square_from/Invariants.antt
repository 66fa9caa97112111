use Rattle.std.proofs.Common.{◌+◌, ◌*◌, ◌/◌, ◌%◌, get_or}
use Rattle.pictures.proofs.Squares.{Filled}
use Rattle.stores.proofs.bytes.square_from.Given as goal

-- the rows before this one are copied
abbrev pub invariant-loop-row : goal.invariant-loop-row
invariant-loop-row l = Filled (λ k. get_or l.bytes (l.at + k / 8 * l.stride + k % 8) 0) (8 * l.row) l.values
