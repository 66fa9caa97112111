-- A loop that writes f k at each place k of an array of this size has come to place n. (`pictures` says the same of squares: these two crates know nothing of each other.)
use Rattle.std.proofs.Common.{◌≡◌, ℕ, ◌<◌, List, length, get_or}

abbrev pub Filled : ℕ → (ℕ → ℕ) → ℕ → List ℕ → Type 0
Filled size f n xs = (length xs ≡ size) × ((k : ℕ) → k < n → get_or xs k 0 ≡ f k)
