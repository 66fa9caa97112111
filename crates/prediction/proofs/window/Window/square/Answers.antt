use Rattle.std.proofs.Common.{◌+◌, ◌-◌, ◌*◌, ◌/◌, ◌%◌, sym, ap, ◌∙◌, arith}
use Rattle.pictures.specs.Pictures.{side}
use Rattle.prediction.specs.Window.{window}
use Rattle.prediction.proofs.Moves.{brought_run}
use Rattle.prediction.proofs.window.Window.square.Goals as goal

pub returns-then-lies_inside-2 : goal.returns-then-lies_inside-2
unfolding window
returns-then-lies_inside-2 g c k h =
    let a = c.args in
    let s = a.self.now.segment in
    let f = (g.S.Store.picture a.self.now.finished.now).sample in
    c.read_square.ensures k h
    ∙ ap (λ x. f a.plane x (a.down - 64 + k / 8)) (brought_run (s.left * side a.plane) (s.right * side a.plane) a.across (k % 8) (sym c.if-lies_inside.ensures) (omega arith))
    ∙ ap (f a.plane _) (brought_run (s.top * side a.plane) (s.bottom * side a.plane) a.down (k / 8) (sym c.if-lies_inside-2.ensures) (omega arith))
