use Rattle.std.proofs.Common.{◌≡◌, ℤ, ◌∙◌, w8, SFits, to_z, of_z, rules}
use Rattle.std.proofs.lemmas.Int.{to_z-of_z}
use Rattle.samples.specs.Vectors.{median_of}
use Rattle.motion.specs.declared.vectors.Vector.{Vector}
use Rattle.motion.proofs.candidates.middle_of.Goals as goal

-- a median of numbers that were passed on
median_back : (a b c r : ℤ) → SFits w8 a → SFits w8 b → SFits w8 c → SFits w8 r → r ≡ median_of (to_z w8 (of_z w8 a)) (to_z w8 (of_z w8 b)) (to_z w8 (of_z w8 c)) → to_z w8 (of_z w8 r) ≡ median_of a b c
median_back a b c r f g h i e =
    let x = to_z-of_z w8 a f in let y = to_z-of_z w8 b g in let z = to_z-of_z w8 c h in
    to_z-of_z w8 r i ∙ e ∙ rw (x, y, z)

both : (h v k w : ℤ) → h ≡ k → v ≡ w → ◌≡◌ {A = Vector} (record { horizontal = h; vertical = v }) (record { horizontal = k; vertical = w })
both h v k w e f = rw (e, f)

pub returns : goal.returns
returns c =
    both _ _ _ _
    (median_back c.args.a.horizontal c.args.b.horizontal c.args.c.horizontal c.median.result (search rules) (search rules) (search rules) (record { sfits = c.median.type_inv }) c.median.ensures)
    (median_back c.args.a.vertical c.args.b.vertical c.args.c.vertical c.median-2.result (search rules) (search rules) (search rules) (record { sfits = c.median-2.type_inv }) c.median-2.ensures)
