-- The deblocking filter's rule for four samples over an edge of two blocks: a and b lie before the edge, c and d after it. Its divisions
-- drop the fraction. Assumes nothing.
use Rattle.std.specs.Prelude.{◌≡◌, ℕ, ◌-◌, ◌*◌, ◌/◌, List, [], ◌∷◌, ℤ, pos, ◌+ℤ◌, ◌-ℤ◌, neg_ℤ, slice_index, unsigned_abs}
use Rattle.transform.specs.Signs.{with_sign}
use Rattle.transform.specs.Sums.{brought}
use Rattle.samples.specs.Clipping.{clipped}
use Rattle.samples.specs.declared.deblocking.Four.{Four}
use Rattle.samples.specs.declared.deblocking.FourRows.{FourRows}

-- z / n with the fraction dropped
unfoldable pub quotient : ℤ → ℕ → ℤ
quotient z n = with_sign z (unsigned_abs z / n)

-- the strength for each quantizer from 1 to 31, and 0 for others, which changes nothing
abbrev pub strengths : List ℕ
strengths =
    0 ∷ 1 ∷ 1 ∷ 2 ∷ 2 ∷ 3 ∷ 3 ∷ 4 ∷ 4 ∷ 4 ∷ 5 ∷ 5 ∷ 6 ∷ 6 ∷ 7 ∷ 7 ∷ 7 ∷ 8 ∷ 8 ∷ 8 ∷ 9 ∷ 9 ∷ 9 ∷ 10 ∷ 10 ∷ 10 ∷ 11 ∷ 11 ∷ 11 ∷ 12 ∷ 12 ∷ 12 ∷ []

unfoldable pub strength_of : ℕ → ℕ
strength_of quantizer = slice_index strengths quantizer

-- d: how far the samples step over the edge
unfoldable pub step_of : Four → ℤ
step_of f = quotient (pos f.a -ℤ pos (4 * f.b) +ℤ pos (4 * f.c) -ℤ pos f.d) 8

-- d1, the correction of b and c: as d up to the strength, and back to 0 at twice the strength (`-` stops at 0)
unfoldable pub inner_of : ℕ → Four → ℤ
inner_of strength f = with_sign (step_of f) (unsigned_abs (step_of f) - 2 * (unsigned_abs (step_of f) - strength))

-- d2, the correction of a and d: at most half of d1 in size
unfoldable pub outer_of : ℕ → Four → ℤ
outer_of strength f =
    brought (neg_ℤ (pos (unsigned_abs (quotient (inner_of strength f) 2)))) (pos (unsigned_abs (quotient (inner_of strength f) 2))) (quotient (pos f.a -ℤ pos f.d) 4)

-- the outer samples, which stay from 0 to 255 by themselves
unfoldable pub new_a : ℕ → Four → ℤ
new_a strength f = pos f.a -ℤ outer_of strength f

unfoldable pub new_d : ℕ → Four → ℤ
new_d strength f = pos f.d +ℤ outer_of strength f

-- the four samples after the filter
abbrev pub deblocked : ℕ → Four → Four
deblocked strength f =
    record { a = unsigned_abs (new_a strength f); b = clipped (pos f.b +ℤ inner_of strength f); c = clipped (pos f.c -ℤ inner_of strength f); d = unsigned_abs (new_d strength f) }

-- what the filter gives for the outer samples is theirs as it stands: neither was below 0 or above 255
abbrev pub Unclipped : ℕ → Four → Four → Type 0
Unclipped strength f new = (pos new.a ≡ new_a strength f) × (pos new.d ≡ new_d strength f)

-- the four samples at place i of eight along an edge
abbrev pub four_at : FourRows → ℕ → Four
four_at r i = record { a = slice_index r.a i; b = slice_index r.b i; c = slice_index r.c i; d = slice_index r.d i }
