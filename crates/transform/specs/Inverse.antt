-- The two inverse transforms. A block is a list of 64 numbers; the one u across and v down stands at 8 * v + u. Assumes nothing.
use Rattle.std.specs.Prelude.{ℕ, ◌+◌, ◌*◌, List, ℤ, pos, negsuc, ◌+ℤ◌, ◌*ℤ◌, slice_index_or}
use Rattle.transform.specs.Sums.{sum8, floor, brought}
use Rattle.transform.specs.Factors.{cosine}

-- a coefficient, brought into -2048 to 2047
unfoldable pub limited : ℤ → ℤ
limited z = brought (negsuc 2047) (pos 2047) z

-- a result, brought into -256 to 255
unfoldable pub ranged : ℤ → ℤ
ranged z = brought (negsuc 255) (pos 255) z

-- the coefficient u across and v down
unfoldable pub coefficient : List ℤ → ℕ → ℕ → ℤ
coefficient xs u v = limited (slice_index_or xs (8 * v + u) (pos 0))

-- The result n across and k down, by two passes. What the first makes of row v at n across is rounded by a half and divided by d; then the
-- same is done down the columns.
unfoldable pub between : ℕ → ℕ → List ℤ → ℕ → ℕ → ℤ
between half d xs n v = floor (sum8 (λ u. cosine u n *ℤ coefficient xs u v) +ℤ pos half) d

unfoldable pub twice : ℕ → ℕ → ℕ → ℕ → List ℤ → ℕ → ℕ → ℤ
twice half d last e xs n k = ranged (floor (sum8 (λ v. cosine v k *ℤ between half d xs n v) +ℤ pos last) e)

-- the result n across and k down, by one sum that is rounded once
unfoldable pub once : ℕ → ℕ → List ℤ → ℕ → ℕ → ℤ
once half d xs n k = ranged (floor (sum8 (λ u. sum8 (λ v. cosine u n *ℤ cosine v k *ℤ coefficient xs u v)) +ℤ pos half) d)

-- the two-pass transform, and the direct one
abbrev pub two_pass : List ℤ → ℕ → ℕ → ℤ
two_pass xs n k = twice 128 256 65536 131072 xs n k

abbrev pub direct : List ℤ → ℕ → ℕ → ℤ
direct xs n k = once 16777216 33554432 xs n k
