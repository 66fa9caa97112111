use Rattle.std.proofs.Common.{◌≡◌}
use Rattle.pictures.specs.Pictures.{painted}
use Rattle.rebuild.specs.Rebuilders.{coded_sample_by}
use Rattle.rebuild.proofs.Sixths.{macroblock_up_to}
use Rattle.rebuild.proofs.rebuilder.Rebuilder.rebuild_coded.Given as goal

-- the blocks before this one are set
abbrev pub invariant-loop-block : goal.invariant-loop-block
invariant-loop-block g l =
    g.S.Store.picture l.working
    ≡ painted (macroblock_up_to l.place.column l.place.row l.block) (coded_sample_by g.S.Store.picture g.T.Transform.meaning l.self l.macroblock l.vector) (g.S.Store.picture l.initial.working)
