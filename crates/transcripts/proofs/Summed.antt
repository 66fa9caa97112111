-- Sums, a byte at a time.
use Rattle.std.proofs.Common.{◌≡◌, ℕ, ◌+◌, refl, add-one}
use Rattle.transcripts.specs.Sums.{sum_more, sum_of_rows, sum_with_row}

pub row_none : (sample : ℕ → ℕ → ℕ) (down sum : ℕ) → sum_with_row sample down 0 sum ≡ sum
unfolding sum_with_row
row_none sample down sum = refl

pub row_more : (sample : ℕ → ℕ → ℕ) (down across sum : ℕ) → sum_with_row sample down (across + 1) sum ≡ sum_more (sum_with_row sample down across sum) (sample across down)
unfolding sum_with_row
row_more sample down across sum = rw (add-one across) refl

pub rows_none : (sample : ℕ → ℕ → ℕ) (width : ℕ) → sum_of_rows sample width 0 ≡ 2166136261
unfolding sum_of_rows
rows_none sample width = refl

pub rows_more : (sample : ℕ → ℕ → ℕ) (width down : ℕ) → sum_of_rows sample width (down + 1) ≡ sum_with_row sample down width (sum_of_rows sample width down)
unfolding sum_of_rows
rows_more sample width down = rw (add-one down) refl
