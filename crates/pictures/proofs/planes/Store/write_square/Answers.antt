use Rattle.std.proofs.Common.{refl, ap, ◌∙◌, arith}
use Rattle.pictures.specs.Pictures.{painted_square}
use Rattle.pictures.proofs.Squares.{set_all, set_more, set_none}
use Rattle.pictures.proofs.planes.Store.write_square.Goals as goal

pub loop-k-init : goal.loop-k-init
loop-k-init g c = set_none _ c.args.plane c.args.across c.args.down c.args.values.now

pub loop-k-preserved : goal.loop-k-preserved
loop-k-preserved g c =
    set_more _ (g.Self.Store.picture c.loop-k.self) _ c.args.plane c.args.across c.args.down c.loop-k.k _ c.args.values.now (omega arith) c.loop-k.invariant c.write.ensures.after refl

pub returns : goal.returns
returns g c =
    set_all _ (g.Self.Store.picture c.loop-k.self) c.args.plane c.args.across c.args.down c.loop-k.k c.args.values.now (omega arith) c.loop-k.invariant
    ∙ ap (λ f. painted_square f c.args.plane c.args.across c.args.down c.args.values.now) c.if-write_together.ensures
