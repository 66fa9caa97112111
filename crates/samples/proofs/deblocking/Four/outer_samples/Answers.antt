use Rattle.std.proofs.Common.{pos, ap, ◌∙◌, arith}
use Rattle.samples.proofs.Corrections.{outer_moved}
use Rattle.samples.proofs.deblocking.Four.outer_samples.Goals as goal

pub returns : goal.returns
returns c =
    let h = outer_moved c.args.strength c.args.self.now _ c.outer-by.ensures (omega arith) (omega arith) in
    record { a = ap pos c.raised_or_lowered.ensures ∙ h.0; d = ap pos c.raised_or_lowered-2.ensures ∙ h.1 }
