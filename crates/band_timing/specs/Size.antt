-- Pictures of one size.
use Rattle.std.specs.Prelude.{◌≡◌}
use Rattle.pictures.specs.Pictures.{Picture}

abbrev pub SameSize : Picture → Picture → Type 0
SameSize f g = (f.wide ≡ g.wide) × (f.high ≡ g.high)
