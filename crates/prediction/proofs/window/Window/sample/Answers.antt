use Rattle.prediction.specs.Window.{window}
use Rattle.prediction.proofs.window.Window.sample.Goals as goal

pub returns : goal.returns
unfolding window
returns g c = simp (c.sample.ensures, c.bring_into_segment.ensures, c.bring_into_segment-2.ensures)
