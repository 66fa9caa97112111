-- One macroblock after another, counted as the check counts them.
use Rattle.std.proofs.Common.{◌≡◌, ℕ, zero, suc, ◌+◌, ◌-◌, ◌/◌, ◌<◌, ◌≤◌, true, cond, List, [], ◌∷◌, length, is_ok, IfOk, Ok, Err, Result, refl, ap, add-zero, arith}
use Rattle.records.specs.declared.faults.MacroblockFault.{MacroblockFault}
use Rattle.records.specs.declared.faults.SegmentFault.{SegmentFault}
use Rattle.records.specs.declared.faults.SegmentFault.TheVariants.{Macroblock as in_macroblock, Word as in_segment}
use Rattle.records.specs.declared.faults.WordFault.{WordFault}
use Rattle.records.specs.declared.types.Macroblock.{Macroblock}
use Rattle.records.specs.declared.types.PictureKind.{PictureKind}
use Rattle.records.specs.Words.{words_of}
use Rattle.records.specs.declared.types.Delivered.{Delivered}
use Rattle.records.specs.Reading.{Unread, and_then}
use Rattle.records.specs.Macroblocks.{in_front, macroblock_from}
use Rattle.records.specs.Deliveries.{answered, intra_counted, delivered_of, end_from, intra_count, is_intra, macroblocks_from, read, whole_words}

intra_counted_more : {F : Type 0} (k d : ℕ) (x : Macroblock) (r : Result (List Macroblock × Unread) F) → d ≡ cond (is_intra x) 1 0 → intra_counted k (in_front (x ∷ []) r) ≡ intra_counted (k + d) r
unfolding intra_count
intra_counted_more k d x (Ok q) e = ap (λ n. Ok (n, q.1)) (omega (arith, e))
intra_counted_more k d x (Err f) e = refl

module _ (kind : PictureKind) (n m k : ℕ) (s : Unread) where
  pub done : n ≤ m → intra_counted k (macroblocks_from (n - m) kind s m) ≡ Ok (k, s)
  unfolding macroblocks_from intra_count
  done h = let e : n - m ≡ zero = omega arith in rw (e, add-zero k)

  pub stop : (f : MacroblockFault) → m < n → ◌≡◌ {A = Result (Macroblock × Unread) MacroblockFault} (Err f) (macroblock_from kind s m)
      → intra_counted k (macroblocks_from (n - m) kind s m) ≡ Err (in_macroblock f)
  unfolding macroblocks_from
  stop f h e = let i : n - m ≡ suc (n - (m + 1)) = omega arith in rw (i, ← e)

  pub more : (x : Macroblock) (t : Unread) (d : ℕ) → m < n → ◌≡◌ {A = Result (Macroblock × Unread) MacroblockFault} (Ok (x, t)) (macroblock_from kind s m) → d ≡ cond (is_intra x) 1 0
      → intra_counted k (macroblocks_from (n - m) kind s m) ≡ intra_counted (k + d) (macroblocks_from (n - (m + 1)) kind t (m + 1))
  unfolding macroblocks_from
  more x t d h e o =
      let i : n - m ≡ suc (n - (m + 1)) = omega arith in
      rw (i, ← e) (intra_counted_more k d x (macroblocks_from (n - (m + 1)) kind t (m + 1)) o)

-- the answer by the count of the INTRA macroblocks, and what is told of it after the last word
abbrev pub answer_or_fault : ℕ → List ℕ → Result (ℕ × Unread) SegmentFault → Result Delivered SegmentFault
answer_or_fault n bytes r = and_then (λ f. f) r (λ q. and_then (λ f. f) (end_from n q.1) (λ _. Ok (record { words = length bytes / 4; intra = q.0 })))

at_end : (bytes : List ℕ) (ms : List Macroblock) (e : Result (Unit {0}) SegmentFault)
    → and_then (λ f. f) (and_then (λ f. f) e (λ _. Ok ms)) (λ xs. Ok (delivered_of bytes xs)) ≡ and_then (λ f. f) e (λ _. Ok (record { words = length bytes / 4; intra = 0 + intra_count ms }))
at_end bytes ms (Ok u) = let none : intra_count ms ≡ 0 + intra_count ms = omega arith in ap (λ k. Ok (record { words = length bytes / 4; intra = k })) none
at_end bytes ms (Err f) = refl

by_count : (n : ℕ) (bytes : List ℕ) (w : Result (Unit {0}) WordFault) (r : Result (List Macroblock × Unread) SegmentFault)
    → and_then (λ f. f) (and_then in_segment w (λ _. and_then (λ f. f) r (λ q. and_then (λ f. f) (end_from n q.1) (λ _. Ok q.0)))) (λ ms. Ok (delivered_of bytes ms)) ≡ and_then in_segment w (λ _. answer_or_fault n bytes (intra_counted 0 r))
by_count n bytes (Err f) r = refl
by_count n bytes (Ok u) (Err f) = refl
by_count n bytes (Ok u) (Ok q) = at_end bytes q.0 (end_from n q.1)

pub answered_is : (kind : PictureKind) (n : ℕ) (bytes : List ℕ) → answered kind n bytes ≡ and_then in_segment (whole_words bytes) (λ _. answer_or_fault n bytes (intra_counted 0 (macroblocks_from n kind (words_of bytes, 0) 0)))
unfolding read
answered_is kind n bytes = by_count n bytes (whole_words bytes) (macroblocks_from n kind (words_of bytes, 0) 0)

-- an answer of counts says that the delivery is accepted
counts_of : (r : Result (List Macroblock) SegmentFault) (on : List Macroblock → Delivered) (a : Result Delivered SegmentFault)
    → a ≡ and_then (λ f. f) r (λ ms. Ok (on ms)) → IfOk a (λ _. is_ok r ≡ true)
counts_of (Ok ms) on (Ok d) e = refl
counts_of (Ok ms) on (Err f) e = tt
counts_of (Err f) on (Ok d) e = let z : ◌≡◌ {A = ℕ} 0 1 = cc in absurd (omega arith)
counts_of (Err f) on (Err g) e = tt

pub accepted_is : (kind : PictureKind) (n : ℕ) (bytes : List ℕ) (a : Result Delivered SegmentFault) → a ≡ answered kind n bytes → IfOk a (λ _. is_ok (read kind n bytes) ≡ true)
accepted_is kind n bytes a e = counts_of (read kind n bytes) (delivered_of bytes) a e
