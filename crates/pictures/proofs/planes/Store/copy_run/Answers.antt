use Rattle.std.proofs.Common.{arith}
use Rattle.pictures.proofs.Painting.{span_one}
use Rattle.pictures.proofs.planes.Store.copy_run.Goals as goal

pub returns : goal.returns
returns g c =
    record {
      next = (omega arith, omega arith);
      after = span_one (g.Self.Store.picture c.args.other.now).sample _ _ c.args.plane c.args.across c.args.down c.sample-copied.result c.write.ensures.after c.sample-copied.ensures;
    }
