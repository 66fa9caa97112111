use Rattle.std.proofs.Common.{◌≡◌}
use Rattle.pictures.specs.Pictures.{painted}
use Rattle.rebuild.proofs.Sixths.{macroblock_up_to}
use Rattle.rebuild.proofs.macroblock.copy_blocks.Given as goal

-- the blocks before this one are copied
abbrev pub invariant-loop-block : goal.invariant-loop-block
invariant-loop-block g l = g.S.Store.picture l.working ≡ painted (macroblock_up_to l.place.column l.place.row l.block) (g.S.Store.picture l.finished).sample (g.S.Store.picture l.initial.working)
