use Rattle.std.proofs.Common.{◌≡◌, ◌^◌, pos, ◌+ℤ◌, refl, ap, ◌∙◌, arith, to_z-of_z, w32, w64, SFits, to_z, of_z}
use Rattle.std.proofs.lemmas.Int.{ints}
use Rattle.transform.specs.Sums.{floor}
use Rattle.transform.proofs.Sizes.{fits_size, floor_size, shift_back}
use Rattle.transform.proofs.RoundedShift.of.Goals as goal

pub returns : goal.returns
returns c =
    let d = 2 ^ c.args.self.shift in
    let sum : to_z w64 (of_z w64 c.args.sum) +ℤ to_z w64 (of_z w64 c.from.result) ≡ c.args.sum +ℤ pos c.args.self.half = omega (arith, ints) in
    let fits : SFits w64 (to_z w64 (of_z w64 c.args.sum) +ℤ to_z w64 (of_z w64 c.from.result)) = omega (arith, ints) in
    let size = floor_size (c.args.sum +ℤ pos c.args.self.half) c.args.sum c.args.self.half d 2147483647 refl c.requires.within c.args.self.half_below in
    let narrow : SFits w32 (floor (c.args.sum +ℤ pos c.args.self.half) d) = fits_size w32 _ (omega arith) in
    ap (λ z. to_z w32 (of_z w32 z)) (shift_back w64 _ d fits ∙ ap (λ z. floor z d) sum) ∙ to_z-of_z narrow
