use Rattle.transform.proofs.Rows.{near, far}
use Rattle.transform.proofs.mirrored_sums.Goals as goal

pub returns-clause-near : goal.returns-clause-near
returns-clause-near c = near _ _ _ _ c.half_sum-even.ensures.value c.half_sum-odd.ensures.value c.half_sum-even.ensures.small c.half_sum-odd.ensures.small

pub returns-clause-far : goal.returns-clause-far
returns-clause-far c = far _ _ _ _ c.requires c.half_sum-even.ensures.value c.half_sum-odd.ensures.value c.half_sum-even.ensures.small c.half_sum-odd.ensures.small
