use Rattle.std.proofs.Common.{not, ap, ◌∙◌}
use Rattle.pictures.specs.Segments.{has_bit}
use Rattle.calls.specs.Effects.{missing}
use Rattle.reel.proofs.reels.Slip.is_missing.Goals as goal

pub returns : goal.returns
unfolding missing
returns c = ap not (c.is_accepted.ensures ∙ ap (has_bit c.args.self.now.accepted) c.segment_of_row.ensures.value)
