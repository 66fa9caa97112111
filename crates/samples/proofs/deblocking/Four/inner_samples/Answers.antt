use Rattle.std.proofs.Common.{◌∙◌, arith}
use Rattle.samples.proofs.Corrections.{inner_moved}
use Rattle.samples.proofs.deblocking.Four.inner_samples.Goals as goal

pub returns : goal.returns
returns c =
    let h = inner_moved c.args.strength c.args.self.now _ _ _ c.inner-by.ensures c.steps-up.ensures.up c.steps-up.ensures.down (omega arith) (omega arith) in
    record { b = c.raised_or_lowered.ensures ∙ h.0; c = c.raised_or_lowered-2.ensures ∙ h.1 }
