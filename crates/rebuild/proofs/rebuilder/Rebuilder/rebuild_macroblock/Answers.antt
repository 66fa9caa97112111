use Rattle.std.proofs.Common.{◌∙◌}
use Rattle.rebuild.proofs.Sixths.{agreeing, coded_sample_lem, skipped_sample}
use Rattle.rebuild.proofs.rebuilder.Rebuilder.rebuild_macroblock.Goals as goal

pub returns-in-Skipped : goal.returns-in-Skipped
returns-in-Skipped g c = c.copy_macroblock.ensures ∙ agreeing _ _ _ _ (λ q u v e. skipped_sample _ _ _ _ _ q u v c.args.macroblock.now c.in-Skipped.is)

pub returns-in_default : goal.returns-in_default
returns-in_default g c = c.rebuild_coded.ensures ∙ agreeing _ _ _ _ (λ q u v e. coded_sample_lem _ _ _ _ _ q u v c.args.macroblock.now c.in_default.not-Skipped)
