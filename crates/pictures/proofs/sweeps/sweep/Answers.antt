use Rattle.std.proofs.Common.{◌∙◌, arith}
use Rattle.pictures.specs.Pictures.{covers}
use Rattle.pictures.proofs.Painting.{alike, planes_all}
use Rattle.pictures.proofs.sweeps.sweep.Goals as goal

pub returns : goal.returns
returns g c =
    c.loop-plane.invariant
    ∙ alike _ _ _ _ (λ q u v h. planes_all (g.S.Store.picture c.args.store.now) (covers c.args.segment q u v) c.loop-plane.plane q u v (omega arith) h)
