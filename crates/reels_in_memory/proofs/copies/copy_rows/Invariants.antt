use Rattle.std.proofs.Common.{◌≡◌, ◌*◌, ◌++◌, drop}
use Rattle.reels_in_memory.specs.Copies.{rows_samples}
use Rattle.reels_in_memory.proofs.copies.copy_rows.Given as goal

-- the rows before this one are copied, and the rest is as it was
abbrev pub invariant-loop-down : goal.invariant-loop-down
invariant-loop-down g l = l.samples ≡ rows_samples (g.S.Store.picture l.store) l.plane l.width l.down ++ drop (l.width * l.down) l.initial.samples
