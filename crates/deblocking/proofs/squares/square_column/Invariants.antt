use Rattle.std.proofs.Common.{◌≡◌, ℕ, ◌+◌, ◌*◌, ◌<◌, length, get_or}
use Rattle.deblocking.proofs.squares.square_column.Given as goal

-- the places before this one are read
abbrev pub invariant-loop-i : goal.invariant-loop-i
invariant-loop-i l = record { whole : length l.value-items ≡ 8; read : (k : ℕ) → k < l.i → get_or l.value-items k 0 ≡ get_or l.square (8 * k + l.column) 0 }
