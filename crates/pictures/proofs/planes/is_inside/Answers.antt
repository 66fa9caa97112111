use Rattle.std.proofs.Common.{◌≡◌, ◌*◌, true, false, ltb, arith}
use Rattle.std.proofs.lemmas.Bool.{le-ltb, lt-ltb}
use Rattle.pictures.specs.Pictures.{side, inside}
use Rattle.pictures.proofs.planes.is_inside.Goals as goal

pub returns-then-plane-ge3 : goal.returns-then-plane-ge3
unfolding inside
returns-then-plane-ge3 c =
    let p : ltb c.args.plane 3 ≡ false = le-ltb _ _ (omega arith) in
    simp p

pub returns-then-across-columns : goal.returns-then-across-columns
unfolding inside
returns-then-across-columns c =
    let p : ltb c.args.plane 3 ≡ true = lt-ltb _ _ (omega arith) in
    let x : ltb c.args.across (c.args.columns * side c.args.plane) ≡ false = rw (← c.side_of-side.ensures) (le-ltb _ _ (omega arith)) in
    simp (p, x)

pub returns : goal.returns
unfolding inside
returns c =
    let p : ltb c.args.plane 3 ≡ true = lt-ltb _ _ (omega arith) in
    let x : ltb c.args.across (c.args.columns * side c.args.plane) ≡ true = rw (← c.side_of-side.ensures) (lt-ltb _ _ (omega arith)) in
    simp (p, x, c.side_of-side.ensures)
