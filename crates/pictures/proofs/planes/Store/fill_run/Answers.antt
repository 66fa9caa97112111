use Rattle.std.proofs.Common.{refl, arith}
use Rattle.pictures.proofs.Painting.{span_one}
use Rattle.pictures.proofs.planes.Store.fill_run.Goals as goal

pub returns : goal.returns
returns g c =
    record {
      next = (omega arith, omega arith);
      after = span_one (λ _ _ _. c.args.value) _ _ c.args.plane c.args.across c.args.down c.args.value c.write.ensures.after refl;
    }
