use Rattle.std.proofs.Common.{◌≡◌, ◌∙◌, length, to_z-of_z, w16, rules}
use Rattle.transform.proofs.Quantized.{coded, uncoded}
use Rattle.transform.proofs.levels.coefficients.Goals as goal

pub returns-in-Some : goal.returns-in-Some
returns-in-Some c =
    let n : length c.from_levels-out.result ≡ 64 = search rules in
    coded _ c.in-Some.code _ _ _ _ c.in-Some.is n c.from_levels-out.ensures (to_z-of_z {w = w16} (record { sfits = c.first_coefficient.type_inv }) ∙ c.first_coefficient.ensures)

pub returns-in_default : goal.returns-in_default
returns-in_default c =
    let n : length c.from_levels-out.result ≡ 64 = search rules in
    uncoded _ _ _ _ c.in_default.is n c.from_levels-out.ensures
