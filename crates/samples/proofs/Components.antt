-- Vector components, from the code's bits. Assumes nothing.
use Rattle.std.proofs.Common.{◌≡◌, ℕ, ◌<◌, ◌≤◌, T, ℤ, pos, negsuc, ◌-ℤ◌, nat_abs, ◌≤ℤ◌, arith, w8, w32, w64, SFits, to_z, of_z}
use lib.Signed.{non_neg}
use Rattle.std.proofs.lemmas.Int.{ints}
use Rattle.transform.specs.Signs.{with_sign}

-- a remainder of a division by 64, less 32
pub less_32 : (r : ℤ) → T (non_neg r) → nat_abs r < 64 → to_z w8 (of_z w8 (to_z w32 (of_z w32 (to_z w32 (of_z w32 r) -ℤ pos 32)))) ≡ r -ℤ pos 32
less_32 (pos n) t h = omega (arith, ints)
less_32 (negsuc n) t h = absurd t

pub from_32 : (r : ℤ) → T (non_neg r) → nat_abs r < 64 → (negsuc 31 ≤ℤ (r -ℤ pos 32)) × ((r -ℤ pos 32) ≤ℤ pos 31)
from_32 (pos n) t h = (omega (arith, ints), omega (arith, ints))
from_32 (negsuc n) t h = absurd t

-- a size with the sign of v fits a byte
pub sign_size : (v : ℤ) (n : ℕ) (z : ℤ) → n ≤ 127 → z ≡ with_sign v n → SFits w8 (to_z w64 (of_z w64 z))
unfolding with_sign
sign_size (pos m) n z h e = omega (arith, ints)
sign_size (negsuc m) n z h e = omega (arith, ints)

pub sign_fits : (v : ℤ) (n : ℕ) (z : ℤ) → n ≤ 127 → z ≡ with_sign v n → to_z w8 (of_z w8 (to_z w64 (of_z w64 z))) ≡ with_sign v n
unfolding with_sign
sign_fits (pos m) n z h e = omega (arith, ints)
sign_fits (negsuc m) n z h e = omega (arith, ints)
