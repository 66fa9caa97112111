-- A reading that cannot fail goes on to one that cannot fail.
use Rattle.std.proofs.Common.{◌≡◌, ℕ, zero, suc, ◌+◌, ◌-◌, ◌<◌, ◌≤◌, Bool, true, false, List, [], ◌∷◌, is_ok, Ok, Err, Result, sym, refl, ap, ◌∙◌, arith}
use Rattle.records.specs.declared.faults.MacroblockFault.{MacroblockFault}
use Rattle.records.specs.declared.types.Macroblock.{Macroblock}
use Rattle.records.specs.declared.types.PictureKind.{PictureKind}
use Rattle.records.specs.Words.{words_of}
use Rattle.records.specs.Reading.{Unread, and_then, with_unread}
use Rattle.records.specs.Macroblocks.{in_front, macroblock_from}
use Rattle.records.specs.Deliveries.{end_from, macroblocks_from, read, whole_words}
use Rattle.records.specs.Again.{records_in}

ok_then : {X Y E F : Type 0} (up : E → F) (r : Result X E) (on : X → Result Y F) → is_ok (and_then up r on) ≡ true → (x : X) × (r ≡ Ok x) × (and_then up r on ≡ on x)
ok_then up (Ok x) on h = (x, refl, refl)
ok_then up (Err e) on h = let z : ◌≡◌ {A = ℕ} 0 1 = cc in absurd (omega arith)

-- what was accepted has its macroblocks
pub accepted_reads : (kind : PictureKind) (n : ℕ) (bytes : List ℕ) → is_ok (read kind n bytes) ≡ true
    → (is_ok (macroblocks_from n kind (words_of bytes, 0) 0) ≡ true) × (read kind n bytes ≡ Ok (records_in (macroblocks_from n kind (words_of bytes, 0) 0)))
unfolding read
accepted_reads kind n bytes h =
    let a = ok_then _ (whole_words bytes) _ h in
    let b = ok_then _ (macroblocks_from n kind (words_of bytes, 0) 0) _ (rw (← a.2) h) in
    let d = ok_then _ (end_from n b.0.1) _ (rw (← b.2, ← a.2) h) in
    (ap is_ok b.1, a.2 ∙ b.2 ∙ d.2 ∙ ap (λ r. Ok (records_in r)) (sym b.1))

-- nothing is left
pub none_left : (kind : PictureKind) (n m : ℕ) (s : Unread) → n ≤ m → records_in (macroblocks_from (n - m) kind s m) ≡ []
unfolding macroblocks_from
none_left kind n m s h = let e : n - m ≡ zero = omega arith in rw e

in_front_ok : {F : Type 0} (x : Macroblock) (r : Result (List Macroblock × Unread) F) → is_ok (in_front (x ∷ []) r) ≡ true → (is_ok r ≡ true) × (records_in (in_front (x ∷ []) r) ≡ x ∷ records_in r)
in_front_ok x (Ok q) h = (refl, refl)
in_front_ok x (Err f) h = let z : ◌≡◌ {A = ℕ} 0 1 = cc in absurd (omega arith)

module _ (kind : PictureKind) (n m : ℕ) (s : Unread) (h : m < n) (ok : is_ok (macroblocks_from (n - m) kind s m) ≡ true) where
  -- the next macroblock has no fault
  pub never : (f : MacroblockFault) → ◌≡◌ {A = Result (Macroblock × Unread) MacroblockFault} (Err f) (macroblock_from kind s m) → ⊥
  unfolding macroblocks_from
  never f e =
      let i : n - m ≡ suc (n - (m + 1)) = omega arith in
      let z : ◌≡◌ {A = Bool} false true = rw (i, ← e) at ok in
      let y : ◌≡◌ {A = ℕ} 0 1 = cc in
      omega arith

  pub next_one : (x : Macroblock) (t : Unread) → ◌≡◌ {A = Result (Macroblock × Unread) MacroblockFault} (Ok (x, t)) (macroblock_from kind s m)
      → (is_ok (macroblocks_from (n - (m + 1)) kind t (m + 1)) ≡ true) × (records_in (macroblocks_from (n - m) kind s m) ≡ x ∷ records_in (macroblocks_from (n - (m + 1)) kind t (m + 1)))
  unfolding macroblocks_from
  next_one x t e =
      let i : n - m ≡ suc (n - (m + 1)) = omega arith in
      let q = in_front_ok x (macroblocks_from (n - (m + 1)) kind t (m + 1)) (rw (i, ← e) at ok) in
      (q.0, rw (i, ← e) q.1)

-- a macroblock that is read of those left: it has no fault, and is the first of their records
pub record One (kind : PictureKind) (n m : ℕ) (s : Unread) (n' m' : ℕ) (t : Unread) (r : Result Macroblock MacroblockFault) : Type 0 where
  pub found : Macroblock
  pub came : r ≡ Ok found
  pub readable : is_ok (macroblocks_from (n' - m') kind t m') ≡ true
  pub records : records_in (macroblocks_from (n - m) kind s m) ≡ found ∷ records_in (macroblocks_from (n' - m') kind t m')

pub one_read : (kind : PictureKind) (n m : ℕ) (s : Unread) → is_ok (macroblocks_from (n - m) kind s m) ≡ true → (n' m' i : ℕ) (t : Unread) (r : Result Macroblock MacroblockFault)
    → n' ≡ n → 0 < n - m → i ≡ m → m' ≡ m + 1 → with_unread r t ≡ macroblock_from kind s i → One kind n m s n' m' t r
one_read kind n m s ok n' m' i t (Ok x) same some here next e =
    let q = next_one kind n m s (omega arith) ok x t (e ∙ ap (λ j. macroblock_from kind s j) here) in
    record { found = x; came = refl; readable = rw (same, next) q.0; records = rw (same, next) q.1 }
one_read kind n m s ok n' m' i t (Err f) same some here next e = absurd (never kind n m s (omega arith) ok f (e ∙ ap (λ j. macroblock_from kind s j) here))
