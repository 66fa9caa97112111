use Rattle.std.proofs.Common.{◌≡◌, ℕ, ◌+◌, ◌*◌, ◌<◌, ◌&&◌, cond, eqb, ltb, get_or}
use Rattle.deblocking.proofs.squares.set_column.Given as goal

-- the places before this one are set
abbrev pub invariant-loop-i : goal.invariant-loop-i
invariant-loop-i l =
    (k j : ℕ) → k < 8 → j < 8 → get_or l.square (8 * k + j) 0 ≡ cond (eqb j l.column && ltb k l.i) (get_or l.values k 0) (get_or l.initial.square (8 * k + j) 0)
