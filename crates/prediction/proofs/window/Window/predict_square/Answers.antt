use Rattle.std.proofs.Common.{◌/◌, ◌%◌, true, false, refl, ◌∙◌}
use Rattle.samples.specs.Prediction.{rounding_of}
use Rattle.prediction.proofs.Steps.{led}
use Rattle.prediction.proofs.window.Window.predict_square.Goals as goal

pub returns-in-false-false : goal.returns-in-false-false
returns-in-false-false g c k h =
    let a = c.args in
    let w = a.self.now in
    led w.segment (rounding_of w.rounding) (g.S.Store.picture w.finished.now).sample a.plane a.x a.y c.moved-u.result c.moved-v.result a.across a.down (k % 8) (k / 8)
    c.ranges.across c.ranges.down c.moved-u.ensures.value c.moved-v.ensures.value
    false false _ _ _ _ c.in-false-false.ensures c.in-false-false.ensures' (c.square-here.ensures k h) refl refl refl

pub returns-in-true-false : goal.returns-in-true-false
returns-in-true-false g c k h =
    let a = c.args in
    let w = a.self.now in
    c.squares_between_two.ensures k h
    ∙ led w.segment (rounding_of w.rounding) (g.S.Store.picture w.finished.now).sample a.plane a.x a.y c.moved-u.result c.moved-v.result a.across a.down (k % 8) (k / 8)
    c.ranges.across c.ranges.down c.moved-u.ensures.value c.moved-v.ensures.value
    true false _ _ _ _ c.in-true-false.ensures c.in-true-false.ensures' (c.square-here.ensures k h) (c.square-in-true-false.ensures k h) refl refl

pub returns-in-false-true : goal.returns-in-false-true
returns-in-false-true g c k h =
    let a = c.args in
    let w = a.self.now in
    c.squares_between_two-in-false-true.ensures k h
    ∙ led w.segment (rounding_of w.rounding) (g.S.Store.picture w.finished.now).sample a.plane a.x a.y c.moved-u.result c.moved-v.result a.across a.down (k % 8) (k / 8)
    c.ranges.across c.ranges.down c.moved-u.ensures.value c.moved-v.ensures.value
    false true _ _ _ _ c.in-false-true.ensures c.in-false-true.ensures' (c.square-here.ensures k h) refl (c.square-in-false-true.ensures k h) refl

pub returns-in-true-true : goal.returns-in-true-true
returns-in-true-true g c k h =
    let a = c.args in
    let w = a.self.now in
    c.squares_between_four.ensures k h
    ∙ led w.segment (rounding_of w.rounding) (g.S.Store.picture w.finished.now).sample a.plane a.x a.y c.moved-u.result c.moved-v.result a.across a.down (k % 8) (k / 8)
    c.ranges.across c.ranges.down c.moved-u.ensures.value c.moved-v.ensures.value
    true true _ _ _ _ c.in-true-true.ensures c.in-true-true.ensures' (c.square-here.ensures k h) (c.square.ensures k h) (c.square-in-true-true.ensures k h) (c.square-in-true-true-2.ensures k h)
