-- What the transform of a name means, and that it keeps the laws of transforms. Assumes nothing.
use Rattle.std.specs.Prelude.{ℕ, List, ℤ}
use Rattle.transform.specs.Inverse.{direct, two_pass}
use Rattle.transform.specs.Laws.{InRange, KeepsZeros, LimitsFirst, two_pass_range, two_pass_zeros, two_pass_ends, direct_range, direct_zeros, direct_ends}
use Rattle.transform.specs.declared.kinds.TransformKind.{TransformKind}
use Rattle.transform.specs.declared.kinds.TransformKind.TheVariants.{TwoPass, Direct}

abbrev pub meaning_of : TransformKind → List ℤ → ℕ → ℕ → ℤ
meaning_of TwoPass = two_pass
meaning_of Direct = direct

pub range_of : (kind : TransformKind) → InRange (meaning_of kind)
range_of TwoPass = two_pass_range
range_of Direct = direct_range

pub zeros_of : (kind : TransformKind) → KeepsZeros (meaning_of kind)
zeros_of TwoPass = two_pass_zeros
zeros_of Direct = direct_zeros

pub ends_of : (kind : TransformKind) → LimitsFirst (meaning_of kind)
ends_of TwoPass = two_pass_ends
ends_of Direct = direct_ends
