use Rattle.std.proofs.Common.{◌≡◌, true, false, ltb, arith}
use Rattle.std.proofs.lemmas.Bool.Decides.{Decides-at}
use Rattle.pictures.specs.Segments.{has_bit, sound}
use Rattle.pictures.proofs.Rows.{sound_bits}
use Rattle.pictures.proofs.formats.Format.is_sound.Goals as goal

pub returns-then-has_bit : goal.returns-then-has_bit
unfolding sound
returns-then-has_bit c =
    let first : has_bit c.args.layout 0 ≡ true = cc in
    let is : ltb c.args.layout c.layout_limit.result ≡ sound c.args.self c.args.layout = simp (first, c.layout_limit.ensures) in
    record { value = is; bits = Decides-at _ _ is (sound_bits c.args.self c.args.layout (omega arith)) }

pub returns-else-has_bit : goal.returns-else-has_bit
unfolding sound
returns-else-has_bit c =
    let first : has_bit c.args.layout 0 ≡ false = cc in
    let is : c.has_bit.result ≡ sound c.args.self c.args.layout = simp (first, c.if-has_bit.false) in
    record { value = is; bits = Decides-at _ _ is (sound_bits c.args.self c.args.layout (omega arith)) }
