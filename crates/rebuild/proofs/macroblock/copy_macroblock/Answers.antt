use Rattle.std.proofs.Common.{ap, ◌∙◌}
use Rattle.pictures.specs.Pictures.{covers, painted}
use Rattle.rebuild.proofs.macroblock.copy_macroblock.Goals as goal

pub returns-then-copy_together : goal.returns-then-copy_together
returns-then-copy_together g c =
    c.if-copy_together.ensures ∙ ap (λ s. painted (covers s) (g.S.Store.picture c.args.finished.now).sample (g.S.Store.picture c.args.working.now)) c.segment.ensures
