-- The figures of the transforms, computed at all places. Assumes nothing.
use Rattle.std.proofs.Common.{◌≡◌, ℕ, ◌<◌, Bool, T, List, ◌∷◌, replicate, ℤ, pos, Some, refl, ap, ◌∙◌}
use Rattle.transform.specs.Coefficients.{from_level, coefficient_at, block_coefficients}
use Rattle.transform.specs.Factors.{cosine, size, mirrored, signed}
use Rattle.transform.specs.Inverse.{limited, ranged, coefficient, between, twice, once, two_pass, direct}
use Rattle.transform.specs.Levels.{rebuilt_size, first_coefficient}
use Rattle.transform.specs.Signs.{with_sign}
use Rattle.transform.specs.Sums.{sum_to, floor, brought}
use Rattle.transform.specs.Zigzag.{rising, diagonal, diagonals, zigzag, found, position_of}
use Rattle.transform.proofs.Finite.{all_to, below, eq_z, eq_z_eq}
use Rattle.samples.specs.Figures.{Level}

-- a block that has only its first coefficient
abbrev alone : ℤ → List ℤ
alone z = z ∷ replicate 63 (pos 0)

only_first : (q code : ℕ) (x : ℤ) → block_coefficients q (Some code) (x ∷ replicate 63 (pos 0)) ≡ alone (first_coefficient code)
unfolding from_level coefficient_at block_coefficients rebuilt_size with_sign limited brought rising diagonal diagonals zigzag found position_of
only_first q code x = refl

abbrev everywhere : (ℕ → ℕ → ℤ) → ℤ → Bool
everywhere f r = all_to 8 (λ n. all_to 8 (λ k. eq_z (f n k) r))

at : (f : ℕ → ℕ → ℤ) (r : ℤ) → T (everywhere f r) → (n k : ℕ) → n < 8 → k < 8 → f n k ≡ r
at f r t n k hn hk = eq_z_eq (f n k) r (below 8 (λ k. eq_z (f n k) r) (below 8 (λ n. all_to 8 (λ k. eq_z (f n k) r)) t n hn) k hk)

level : (code : ℕ) (r : ℤ) → T (everywhere (two_pass (alone (first_coefficient code))) r) → T (everywhere (direct (alone (first_coefficient code))) r) → Level code r
level code r t u q x n k hn hk =
    (ap (λ xs. two_pass xs n k) (only_first q code x) ∙ at (two_pass (alone (first_coefficient code))) r t n k hn hk, ap (λ xs. direct xs n k) (only_first q code x) ∙ at (direct (alone (first_coefficient code))) r u n k hn hk)

pub level_254 : Level 254 (pos 254)
unfolding sum_to floor brought cosine size mirrored signed limited coefficient ranged between twice once
level_254 = level 254 (pos 254) tt tt

pub level_255 : Level 255 (pos 128)
unfolding sum_to floor brought cosine size mirrored signed limited coefficient ranged between twice once
level_255 = level 255 (pos 128) tt tt
