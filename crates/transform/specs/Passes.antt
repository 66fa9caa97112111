-- One pass of the code, which both transforms make twice: over the rows of a block, with the results by columns. Assumes nothing.
use Rattle.std.specs.Prelude.{◌≡◌, ℕ, ◌+◌, ◌*◌, ◌/◌, ◌%◌, ◌<◌, ◌≤◌, List, ℤ, pos, ◌+ℤ◌, ◌*ℤ◌, slice_index_or, unsigned_abs}
use Rattle.transform.specs.Sums.{sum8, floor}
use Rattle.transform.specs.Factors.{cosine}

-- the sum of row v for n across
unfoldable pub weighed : List ℤ → ℕ → ℕ → ℤ
weighed xs n v = sum8 (λ u. cosine u n *ℤ slice_index_or xs (8 * v + u) (pos 0))

-- what stands at the place p after a pass: the sum of row p % 8 for p / 8 across, rounded and divided
unfoldable pub after_pass : List ℤ → ℕ → ℕ → ℕ → ℤ
after_pass xs half d p = floor (weighed xs (p / 8) (p % 8) +ℤ pos half) d

-- each number of a block is at most h in size
abbrev pub Small : ℕ → List ℤ → Type 0
Small h xs = (p : ℕ) → p < 64 → unsigned_abs (slice_index_or xs p (pos 0)) ≤ h

-- the same of a row by itself: its terms for n across, those for every second u from the first on, the sum of all, and that sum rounded and divided
unfoldable pub term : List ℤ → ℕ → ℕ → ℤ
term x n u = cosine u n *ℤ slice_index_or x u (pos 0)

abbrev pub half_sum : List ℤ → ℕ → ℕ → ℤ
half_sum x n first = term x n first +ℤ term x n (first + 2) +ℤ term x n (first + 4) +ℤ term x n (first + 6)

unfoldable pub weighed_row : List ℤ → ℕ → ℤ
weighed_row x n = sum8 (λ u. cosine u n *ℤ slice_index_or x u (pos 0))

unfoldable pub rounded_sum : List ℤ → ℕ → ℕ → ℕ → ℤ
rounded_sum x half d n = floor (weighed_row x n +ℤ pos half) d

-- the eight numbers of a row are f 0 to f 7, or at most h in size
abbrev pub RowIs : List ℤ → (ℕ → ℤ) → Type 0
RowIs x f = (u : ℕ) → u < 8 → slice_index_or x u (pos 0) ≡ f u

abbrev pub SmallRow : ℕ → List ℤ → Type 0
SmallRow h x = (u : ℕ) → u < 8 → unsigned_abs (slice_index_or x u (pos 0)) ≤ h

abbrev pub ZeroAt : List ℤ → ℕ → Type 0
ZeroAt x u = slice_index_or x u (pos 0) ≡ pos 0
