use Rattle.std.proofs.Common.{◌≡◌, take, map}
use Rattle.std.specs.List.{range_with_len}
use Rattle.reels_in_memory.proofs.copies.copy_row.Given as goal

-- the samples before this one are copied
abbrev pub invariant-loop-across : goal.invariant-loop-across
invariant-loop-across g l = take l.across l.row ≡ map (λ across. (g.S.Store.picture l.store).sample l.plane across l.down) (range_with_len 0 l.across)
