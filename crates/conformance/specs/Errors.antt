-- The errors of a transform at one place of a block, and the limits. Sums that would pass 32 bits stay at the end. Assumes nothing.
use Rattle.std.specs.Prelude.{ℕ, ◌+◌, ◌-◌, ◌*◌, ◌^◌, min, max, Bool, ◌&&◌, ℤ, ◌-ℤ◌, nat_le, unsigned_abs}
use Rattle.conformance.specs.declared.errors.Errors.{Errors}
use Rattle.conformance.specs.declared.errors.Totals.{Totals}
use Rattle.std.specs.Int.{int_max}

abbrev pub sum32 : ℕ → ℕ → ℕ
sum32 a b = min (a + b) (2 ^ 32 - 1)

-- how far a number lies over another, and 0 if it does not
abbrev pub excess : ℤ → ℤ → ℕ
excess a b = unsigned_abs (int_max a b -ℤ b)

-- the errors with one more result, of which the reference wants another
abbrev pub errors_with : Errors → ℤ → ℤ → Errors
errors_with e got want =
    record {
      peak = max e.peak (unsigned_abs (got -ℤ want));
      over = sum32 e.over (excess got want);
      under = sum32 e.under (excess want got);
      squares = sum32 e.squares (unsigned_abs (got -ℤ want) * unsigned_abs (got -ℤ want));
    }

-- the figures with one more place: the greatest of the places, and sums over them (with those over and under kept apart)
abbrev pub sum64 : ℕ → ℕ → ℕ
sum64 a b = min (a + b) (2 ^ 64 - 1)

abbrev pub no_totals : Totals
no_totals = record { peak = 0; square = 0; squares = 0; mean = 0; over = 0; under = 0 }

abbrev pub totals_with : Totals → Errors → Totals
totals_with t e =
    record {
      peak = max t.peak e.peak;
      square = max t.square e.squares;
      squares = sum64 t.squares e.squares;
      mean = max t.mean ((e.over - e.under) + (e.under - e.over));
      over = sum64 t.over e.over;
      under = sum64 t.under e.under;
    }

-- The limits over 10,000 blocks. At any place: an error of at most 1, a mean square of 0.06, a mean of 0.015; over all 64 places a mean
-- square of 0.02 and a mean of 0.0015. As sums: 600, 150, 12800 and 960.
abbrev pub allowed : Totals → Bool
allowed t = nat_le t.peak 1 && (nat_le t.square 600 && (nat_le t.squares 12800 && (nat_le t.mean 150 && nat_le ((t.over - t.under) + (t.under - t.over)) 960)))
