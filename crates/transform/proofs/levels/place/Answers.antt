use Rattle.std.proofs.Common.{ap, ◌∙◌, arith}
use Rattle.transform.specs.Zigzag.{position_of}
use Rattle.transform.proofs.Positions.{place_is, place_inside}
use Rattle.transform.proofs.levels.place.Goals as goal

pub returns : goal.returns
returns c =
    record {
      value = ap position_of c.from.ensures ∙ place_is c.args.position c.requires;
      inside = let i = place_inside c.args.position c.requires in omega (arith, c.from.ensures);
    }
