-- A row belongs to a segment just when it lies between the segment's first row and the next one's.
use Rattle.std.proofs.Common.{◌≡◌, ℕ, zero, suc, ◌+◌, ◌-◌, ◌*◌, ◌/◌, ◌%◌, ◌^◌, ◌<◌, ◌≤◌, Bool, true, false, cond, ◌&&◌, eqb, ltb, leb, ◌⊎◌, Decides, map, sym, refl, ap, ◌∙◌, inl, inr, ⊎_elim, le_refl, mul-le-mul_left, add-one, arith, pow_pos, pow-add}
use Rattle.std.specs.List.{count_by, range_with_len}
use native.Mathlib.Nat.{div-eq_of_lt}
use Rattle.std.proofs.lemmas.List.{map-id}
use Rattle.std.proofs.lemmas.List.FromFn.{sum_by-map-range_with_len_more}
use Rattle.std.proofs.lemmas.Nat.{div_below, le-div}
use Rattle.std.proofs.lemmas.Bool.{and_from, and_parts, both_ways, cases_lt, cases_eq, cases_order, eq-eqb, ne_eqb, le-leb, lt-leb, lt-ltb, le-ltb, ltb-true}
use Rattle.pictures.specs.declared.formats.Format.{Format}
use Rattle.pictures.specs.declared.formats.Format.TheVariants.{SubQcif, Qcif, Cif}
use Rattle.pictures.specs.Formats.{rows_of}
use Rattle.pictures.specs.Segments.{has_bit, sound, segment_of_row, rows_before, first_row, segment_count, Segmented}

-- a number with no bit from n on is below 2 ^ n, and back
pub no_bit : (number n bit : ℕ) → number < 2 ^ n → n ≤ bit → has_bit number bit ≡ false
unfolding has_bit
no_bit number n bit lt le =
    let more : 2 ^ bit ≡ 2 ^ n * 2 ^ (bit - n) = ap (λ m. 2 ^ m) (let e : bit ≡ n + (bit - n) = omega arith in e) ∙ pow-add 2 n (bit - n) in
    let up : 2 ^ n * 1 ≤ 2 ^ n * 2 ^ (bit - n) = mul-le-mul_left (2 ^ n) (pow_pos (bit - n)) in
    let below : number < 2 ^ bit = omega arith in
    ap (λ a. eqb (a % 2) 1) (div-eq_of_lt below)

pub below_bits : (number n k : ℕ) → number < 2 ^ (n + k) → ((bit : ℕ) → n ≤ bit → has_bit number bit ≡ false) → number < 2 ^ n
unfolding has_bit
below_bits number n zero lt none = let e : n + 0 ≡ n = omega arith in rw e at lt
below_bits number n (suc k) lt none = below_bits number n k (lower (cases_lt number (2 ^ (n + k)))) none
  where
    double : 2 ^ (n + suc k) ≡ 2 * 2 ^ (n + k)
    double = ap (λ m. 2 ^ m) (let e : n + suc k ≡ 1 + (n + k) = omega arith in e) ∙ pow-add 2 1 (n + k)

    lower : (number < 2 ^ (n + k)) ⊎ (2 ^ (n + k) ≤ number) → number < 2 ^ (n + k)
    lower (inl h) = h
    lower (inr h) =
        let a : 1 ≤ number / 2 ^ (n + k) = le-div 1 number (2 ^ (n + k)) (pow_pos (n + k)) (omega arith) in
        let b : number / 2 ^ (n + k) < 2 = div_below number (2 ^ (n + k)) 2 (pow_pos (n + k)) (omega (arith, double)) in
        let c : number / 2 ^ (n + k) % 2 ≡ 1 = omega arith in
        absurd (both_ways _ (none (n + k) (omega arith)) (eq-eqb _ 1 c))

-- a layout is sound just when bit 0 is set and no bit at or above the row count
pub sound_bits : (format : Format) (layout : ℕ) → layout < 2 ^ 32
    → Decides (sound format layout) ((has_bit layout 0 ≡ true) × ((row : ℕ) → rows_of format ≤ row → has_bit layout row ≡ false))
unfolding sound
sound_bits format layout fits = (
  λ e. let t = and_parts (has_bit layout 0) (ltb layout (2 ^ rows_of format)) e in (t.0, λ row le. no_bit layout (rows_of format) row (ltb-true _ _ t.1) le),
  λ b. and_from (has_bit layout 0) (ltb layout (2 ^ rows_of format)) b.0 (lt-ltb _ _ (below format b.1)),
)
  where
    below : (f : Format) → ((row : ℕ) → rows_of f ≤ row → has_bit layout row ≡ false) → layout < 2 ^ rows_of f
    below SubQcif = below_bits layout 6 26 fits
    below Qcif = below_bits layout 9 23 fits
    below Cif = below_bits layout 18 14 fits

-- of n numbers from a on, how many pass a test, with the last of them taken off
counted_more : (p : ℕ → Bool) (a n : ℕ) → count_by p (range_with_len a (suc n)) ≡ cond (p (a + n)) (suc (count_by p (range_with_len a n))) (count_by p (range_with_len a n))
counted_more p a n =
    ap (count_by p) (sym (map-id (range_with_len a (suc n))) ∙ ap (λ m. map (λ (x : ℕ). x) (range_with_len a m)) (sym (add-one n)))
    ∙ sum_by-map-range_with_len_more (λ x. cond (p x) 1 0) (λ x. x) a n (a + n) refl
    ∙ ap (λ xs. count_by p xs + cond (p (a + n)) 1 0) (map-id (range_with_len a n))
    ∙ chosen (p (a + n)) (count_by p (range_with_len a n))
  where
    chosen : (b : Bool) (k : ℕ) → k + cond b 1 0 ≡ cond b (suc k) k
    chosen true k = omega arith
    chosen false k = omega arith

-- the bits below row 0, counted, are the number of the segment
pub bits_counted : (l n : ℕ) → count_by (λ r. has_bit l (r + 1)) (range_with_len 0 n) ≡ segment_of_row l n
unfolding segment_of_row
bits_counted l zero = refl
bits_counted l (suc n) =
    counted_more (λ r. has_bit l (r + 1)) 0 n ∙ (let e : 0 + n ≡ n = omega arith in rw (e, add-one n, bits_counted l n) refl)

-- and so are the rows
pub rows_counted : (l k n : ℕ) → count_by (λ r. ltb (segment_of_row l r) k) (range_with_len 0 n) ≡ rows_before l k n
unfolding rows_before
rows_counted l k zero = refl
rows_counted l k (suc n) = counted_more (λ r. ltb (segment_of_row l r) k) 0 n ∙ (let e : 0 + n ≡ n = omega arith in rw (e, rows_counted l k n) refl)

cond_up : (t : Bool) (n : ℕ) → (n ≤ cond t (suc n) n) × (cond t (suc n) n ≤ suc n)
cond_up true n = (omega arith, omega arith)
cond_up false n = (omega arith, omega arith)

-- from a row to the next the number rises by one or not at all
up_one : (l n : ℕ) → (segment_of_row l n ≤ segment_of_row l (suc n)) × (segment_of_row l (suc n) ≤ suc (segment_of_row l n))
unfolding segment_of_row
up_one l n = cond_up (has_bit l (suc n)) (segment_of_row l n)

pub up : (l a n : ℕ) → a ≤ n → segment_of_row l a ≤ segment_of_row l n
up l a zero h = let e : a ≡ 0 = omega arith in rw e (le_refl _)
up l a (suc n) h =
    ⊎_elim
    (λ (e : a ≡ suc n). rw e (le_refl _))
    (λ (e : a ≡ suc n → ⊥). let i : a ≤ n = omega arith in omega (arith, up l a n i, (up_one l n).0))
    (cases_eq a (suc n))

-- so every number up to that of row n is some row's
reached : (l k n : ℕ) → k ≤ segment_of_row l n → (r : ℕ) × (r ≤ n) × (segment_of_row l r ≡ k)
unfolding segment_of_row
reached l k zero h = (0, le_refl 0, (let e : 0 ≡ k = omega arith in e))
reached l k (suc n) h = further (reached l k n) (cases_lt (segment_of_row l n) k)
  where
    further : (k ≤ segment_of_row l n → (r : ℕ) × (r ≤ n) × (segment_of_row l r ≡ k)) → (segment_of_row l n < k) ⊎ (k ≤ segment_of_row l n) → (r : ℕ) × (r ≤ suc n) × (segment_of_row l r ≡ k)
    further above (inl lt) = (suc n, le_refl (suc n), (let e : segment_of_row l (suc n) ≡ k = omega (arith, (up_one l n).1) in e))
    further above (inr le) = let t = above le in (t.0, (let i : t.0 ≤ suc n = omega (arith, t.1) in i), t.2)

-- of n rows at most n lie before
before_le : (l k n : ℕ) → rows_before l k n ≤ n
unfolding rows_before
before_le l k zero = le_refl _
before_le l k (suc n) = omega (arith, before_le l k n, (cond_up (ltb (segment_of_row l n) k) (rows_before l k n)).1)

-- and before a segment at most as many as before the next
before_next : (l k n : ℕ) → rows_before l k n ≤ rows_before l (suc k) n
unfolding rows_before
before_next l k zero = le_refl _
before_next l k (suc n) = next (segment_of_row l n) (before_next l k n) (cases_lt (segment_of_row l n) k)
  where
    next : (s : ℕ) {a b : ℕ} → a ≤ b → (s < k) ⊎ (k ≤ s) → cond (ltb s k) (suc a) a ≤ cond (ltb s (suc k)) (suc b) b
    next s h (inl i) = rw (lt-ltb s k i, lt-ltb s (suc k) (omega arith)) (omega arith)
    next s {a} {b} h (inr i) = rw (le-ltb s k i) (let t = cond_up (ltb s (suc k)) b in omega (arith, t.0))

-- all of them, if the last does
before_all : (l k n : ℕ) → ((r : ℕ) → r < n → segment_of_row l r < k) → rows_before l k n ≡ n
unfolding rows_before
before_all l k zero h = refl
before_all l k (suc n) h = rw (lt-ltb (segment_of_row l n) k (h n (omega arith))) (ap suc (before_all l k n (λ r i. h r (omega arith))))

before_none : (l k n : ℕ) → k ≤ segment_of_row l n → rows_before l k (suc n) ≡ rows_before l k n
unfolding rows_before
before_none l k n h = rw (le-ltb (segment_of_row l n) k h) refl

-- the rows before segment k are those below their number
abbrev Split : ℕ → ℕ → ℕ → Type 0
Split l k n = (r : ℕ) → r < n → (segment_of_row l r < k → r < rows_before l k n) × (k ≤ segment_of_row l r → rows_before l k n ≤ r)

split_more : (l k n : ℕ) → Split l k n → (segment_of_row l n < k) ⊎ (k ≤ segment_of_row l n) → Split l k (suc n)
split_more l k n ih (inl lt) r h =
    let all : rows_before l k (suc n) ≡ suc n = before_all l k (suc n) (λ a i. omega (arith, up l a n (omega arith))) in
    (λ i. rw all h, λ i. absurd (omega (arith, up l r n (omega arith))))
split_more l k n ih (inr le) r h = last (before_none l k n le) (cases_lt r n)
  where
    last : rows_before l k (suc n) ≡ rows_before l k n → (r < n) ⊎ (n ≤ r)
        → (segment_of_row l r < k → r < rows_before l k (suc n)) × (k ≤ segment_of_row l r → rows_before l k (suc n) ≤ r)
    last same (inl lt) = (λ i. rw same ((ih r lt).0 i), λ i. rw same ((ih r lt).1 i))
    last same (inr ge) =
        let is : r ≡ n = omega arith in
        let ends : k ≤ segment_of_row l r = rw is le in
        (λ i. absurd (omega arith), λ i. rw same (omega (arith, before_le l k n)))

split : (l k n : ℕ) → Split l k n
split l k zero r h = absurd (omega arith)
split l k (suc n) r h = split_more l k n (split l k n) (cases_lt (segment_of_row l n) k) r h

lies_between : (s k r b e : ℕ) → (s < k → r < b) × (k ≤ s → b ≤ r) → (s < suc k → r < e) × (suc k ≤ s → e ≤ r)
    → eqb s k ≡ (leb b r && ltb r e)
lies_between s k r b e f g =
    ⊎_elim
    (λ (h : s ≡ k). let i : b ≤ r = f.1 (omega arith) in let j : r < e = g.0 (omega arith) in simp (eq-eqb s k h, le-leb b r i, lt-ltb r e j))
    (λ (o : (s < k) ⊎ (k < s)). ⊎_elim
    (λ (h : s < k). let i : r < b = f.0 h in let n : s ≡ k → ⊥ = (λ z. omega arith) in simp (ne_eqb s k n, lt-leb b r i))
    (λ (h : k < s). let i : b ≤ r = f.1 (omega arith) in let j : e ≤ r = g.1 (omega arith) in let n : s ≡ k → ⊥ = (λ z. omega arith) in
    simp (ne_eqb s k n, le-leb b r i, le-ltb r e j))
    o)
    (cases_order s k)

pub segmented : (format : Format) (layout : ℕ) → Segmented format layout
unfolding segment_of_row first_row segment_count
segmented format layout =
    record {
      first = refl;
      downwards = up layout;
      below_count = λ r h. let a = up layout r (rows_of format - 1) (omega arith) in omega (arith, a);
      between = λ k r h. lies_between _ k r _ _ (split layout k (rows_of format) r h) (split layout (suc k) (rows_of format) r h);
      some_row = λ k h. has_row k (reached layout k (rows_of format - 1) (omega arith));
      in_order = λ k. before_next layout k (rows_of format);
      in_picture = λ k. before_le layout (suc k) (rows_of format);
    }
  where
    positive : (f : Format) → 0 < rows_of f
    positive SubQcif = omega arith
    positive Qcif = omega arith
    positive Cif = omega arith

    has_row : (k : ℕ) → (r : ℕ) × (r ≤ rows_of format - 1) × (segment_of_row layout r ≡ k) → rows_before layout k (rows_of format) < rows_before layout (suc k) (rows_of format)
    has_row k t =
        let h : t.0 < rows_of format = omega (arith, t.1, positive format) in
        let a = (split layout k (rows_of format) t.0 h).1 (omega (arith, t.2)) in
        let b = (split layout (suc k) (rows_of format) t.0 h).0 (omega (arith, t.2)) in
        omega (arith, a, b)
