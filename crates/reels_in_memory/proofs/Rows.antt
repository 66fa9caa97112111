-- A plane row after row.
use Rattle.std.proofs.Common.{◌≡◌, ℕ, zero, suc, ◌+◌, ◌-◌, ◌*◌, ◌<◌, ◌≤◌, List, [], ◌∷◌, ◌++◌, length, map, take, drop, set, sym, ap, ◌∙◌, append_assoc, add-one, arith, length-append}
use Rattle.std.proofs.Math.Nat.{mul-le-mul_left, mul-suc, mul-zero}
use Rattle.std.proofs.lemmas.List.{drop-drop, drop_at, take_all, take_at, take_more_set}
use Rattle.std.proofs.lemmas.List.FromFn.{length-map-range_with_len, map-range_with_len_more}
use borrow.Rule.Slice.PartMut.{mid_len, mid_of, put_mid}
use Rattle.std.specs.List.{range_with_len}
use Rattle.pictures.specs.Pictures.{Picture}
use Rattle.reels_in_memory.specs.Copies.{row_samples, rows_samples}

module _ (f : ℕ → ℕ) where
  -- one sample more is copied
  pub sample_more : (row : List ℕ) (i : ℕ) (v : ℕ) → i < length row → v ≡ f i → take i row ≡ map f (range_with_len 0 i)
      → take (i + 1) (set row i v) ≡ map f (range_with_len 0 (i + 1))
  sample_more row i v b e h =
      take_more_set row i v b ∙ ap (λ x. take i row ++ (x ∷ [])) e ∙ ap (λ xs. xs ++ (f i ∷ [])) h ∙ sym (map-range_with_len_more f 0 i i (omega arith))

  -- all are
  pub samples_all : (row : List ℕ) (i n : ℕ) → length row ≤ i → length row ≡ n → take i row ≡ map f (range_with_len 0 i) → row ≡ map f (range_with_len 0 n)
  samples_all row i n b e h =
      let s : row ≡ map f (range_with_len 0 i) = sym (take_all i row b) ∙ h in
      let k : n ≡ i = sym e ∙ ap length s ∙ length-map-range_with_len f 0 i in
      s ∙ ap (λ m. map f (range_with_len 0 m)) (sym k)

module _ (f : Picture) (p w : ℕ) where
  pub rows_length : (k : ℕ) → length (rows_samples f p w k) ≡ w * k
  unfolding rows_samples
  rows_length zero = sym (mul-zero w)
  rows_length (suc k) =
      length-append (rows_samples f p w k) (row_samples f p w k)
      ∙ ap (λ n. n + length (row_samples f p w k)) (rows_length k)
      ∙ ap (λ n. w * k + n) (length-map-range_with_len (λ across. f.sample p across k) 0 w)
      ∙ sym (mul-suc w k)

  -- none is copied yet
  pub no_rows : (initial : List ℕ) → initial ≡ rows_samples f p w 0 ++ drop (w * 0) initial
  unfolding rows_samples
  no_rows initial = ap (λ n. drop n initial) (sym (mul-zero w))

  module _ (k : ℕ) (initial samples row : List ℕ) (was : samples ≡ rows_samples f p w k ++ drop (w * k) initial) (is : row ≡ row_samples f p w k) where
    -- one row more is
    pub row_more : (n : ℕ) → n ≡ w → put_mid (w * k) n samples row ≡ rows_samples f p w (k + 1) ++ drop (w * (k + 1)) initial
    unfolding rows_samples
    row_more n e =
        let a = w * k in
        let front : take a samples ≡ rows_samples f p w k = ap (take a) was ∙ take_at (rows_samples f p w k) (drop a initial) a (rows_length k) in
        let back : drop n (drop a samples) ≡ drop (w * suc k) initial =
        ap (λ xs. drop n (drop a xs)) was
        ∙ ap (drop n) (drop_at (rows_samples f p w k) (drop a initial) a (rows_length k))
        ∙ drop-drop n a initial
        ∙ ap (λ m. drop m initial) (ap (λ m. a + m) e ∙ sym (mul-suc w k)) in
        rw add-one
        (ap (λ xs. xs ++ (row ++ drop n (drop a samples))) front
        ∙ ap (λ xs. rows_samples f p w k ++ (row ++ xs)) back
        ∙ ap (λ xs. rows_samples f p w k ++ (xs ++ drop (w * suc k) initial)) is
        ∙ sym (append_assoc (rows_samples f p w k) (row_samples f p w k) (drop (w * suc k) initial)))

-- the part that a row is copied to is as wide as the row
pub row_wide : (w k height : ℕ) (samples : List ℕ) → k < height → w * height ≤ length samples → length (mid_of (w * k) (w * k + w - w * k) samples) ≡ w
row_wide w k height samples b r =
    let more : suc k ≤ height = omega arith in
    let m : w * suc k ≤ w * height = mul-le-mul_left w more in
    let s : w * suc k ≡ w * k + w = mul-suc w k in
    let e : w * k + w ≤ length samples = omega arith in
    let n : w * k + w - w * k ≡ w = omega arith in
    mid_len (w * k) (w * k + w) samples e ∙ n
