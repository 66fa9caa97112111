-- Cells that are set one after the other, from the front of a table.
use Rattle.std.proofs.Common.{◌≡◌, ℕ, zero, suc, ◌+◌, ◌-◌, ◌%◌, ◌<◌, ◌≤◌, Bool, true, false, cond, eqb, ltb, List, [], ◌∷◌, ◌++◌, length, get_or, take, drop, set, sym, refl, ap, ◌∙◌, append_assoc, arith, length-append}
use native.Mathlib.Nat.{mod-one, zero-mod}
use borrow.Author.Tests.{eqb-false}
use Rattle.std.proofs.lemmas.Bool.Decides.{nat_tests}
use Rattle.std.proofs.lemmas.List.{drop_more, get_or_append_left, take_more}
use Rattle.records.specs.declared.types.Macroblock.{Macroblock}
use Rattle.records.specs.declared.types.Macroblock.TheVariants.{Skipped, Inter, Intra}
use Rattle.records.specs.Deliveries.{is_intra}
use Rattle.samples.specs.Ages.{next_age}
use Rattle.motion.specs.declared.vectors.Vector.{Vector}
use Rattle.motion.specs.Cells.{ages_of, mark_of, marks_of}
use Rattle.motion.specs.Vectors.{corrected, left_of, middle_of, vector_for, vectors_after, vectors_at, vectors_of, zero_vector}

-- the next of a list
pub record Next {X : Type 0} (xs : List X) (i : ℕ) (x : X) (rest : List X) : Type 0 where
  pub within : i < length xs
  pub more : take (i + 1) xs ≡ take i xs ++ (x ∷ [])
  pub left : rest ≡ drop (i + 1) xs

within_of : {X : Type 0} (xs : List X) (i : ℕ) (x : X) (rest : List X) → drop i xs ≡ x ∷ rest → i < length xs
within_of [] zero x rest e = let z : ◌≡◌ {A = ℕ} 0 1 = cc in absurd (omega arith)
within_of [] (suc i) x rest e = let z : ◌≡◌ {A = ℕ} 0 1 = cc in absurd (omega arith)
within_of (y ∷ xs) zero x rest e = omega arith
within_of (y ∷ xs) (suc i) x rest e = omega (arith, within_of xs i x rest e)

pub next_of : {X : Type 0} (xs : List X) (i : ℕ) (x : X) (rest : List X) → drop i xs ≡ x ∷ rest → Next xs i x rest
next_of {X} xs i x rest e =
    let l = within_of xs i x rest e in
    let d = drop_more xs i x l in
    let q : ◌≡◌ {A = List X} (x ∷ rest) (get_or xs i x ∷ drop (i + 1) xs) = sym e ∙ d in
    let h : get_or xs i x ≡ x = cc in
    let t : rest ≡ drop (i + 1) xs = cc in
    record { within = l; more = take_more xs i x l ∙ ap (λ y. take i xs ++ (y ∷ [])) h; left = t }

set_at : {X : Type 0} (xs ys : List X) (y v : X) → set (xs ++ (y ∷ ys)) (length xs) v ≡ xs ++ (v ∷ ys)
set_at [] ys y v = refl
set_at (x ∷ xs) ys y v = ap (λ r. x ∷ r) (set_at xs ys y v)

-- one cell more
set_next : {X : Type 0} (xs ys : List X) (i : ℕ) (v : X) → length xs ≡ i → i < length ys → set (xs ++ drop i ys) i v ≡ (xs ++ (v ∷ [])) ++ drop (i + 1) ys
set_next xs ys i v e l =
    rw (drop_more ys i v l, ← e) (set_at xs (drop (length xs + 1) ys) (get_or ys (length xs) v) v ∙ sym (append_assoc xs (v ∷ []) (drop (length xs + 1) ys)))

not_first : (i n : ℕ) → eqb (i % n) 0 ≡ false → i - 1 < i
not_first zero n e = absurd (eqb-false (0 % n) 0 e (zero-mod n))
not_first (suc i) n e = omega arith

not_one : (i n : ℕ) → eqb (i % n) 0 ≡ false → (n ≡ 1 → ⊥)
not_one i n e h = eqb-false (i % n) 0 e (ap (λ k. i % k) h ∙ mod-one i)

middle_same : (a b c x y z : Vector) → a ≡ x → b ≡ y → c ≡ z → middle_of a b c ≡ middle_of x y z
middle_same a b c x y z e f g = rw (e, f, g)

-- the candidates lie among the vectors that are done
module _ (columns : ℕ) (xs ys : List Vector) (some : 0 < columns) where
  front : (k : ℕ) → k < length xs → vectors_at (xs ++ ys) k ≡ vectors_at xs k
  front k h = get_or_append_left xs ys zero_vector k h

  left_by : (b : Bool) → eqb (length xs % columns) 0 ≡ b → cond b zero_vector (vectors_at (xs ++ ys) (length xs - 1)) ≡ cond b zero_vector (vectors_at xs (length xs - 1))
  left_by true e = refl
  left_by false e = front (length xs - 1) (not_first (length xs) columns e)

  left_done : left_of columns (xs ++ ys) (length xs) ≡ left_of columns xs (length xs)
  left_done = left_by (eqb (length xs % columns) 0) refl

  above_by : (b : Bool) → ltb (length xs) columns ≡ b
      → cond b (left_of columns (xs ++ ys) (length xs)) (vectors_at (xs ++ ys) (length xs - columns)) ≡ cond b (left_of columns xs (length xs)) (vectors_at xs (length xs - columns))
  above_by true e = left_done
  above_by false e = let h : columns ≤ length xs = grind (arith, nat_tests) in front (length xs - columns) (omega arith)

  right_by : (a b : Bool) → eqb ((length xs + 1) % columns) 0 ≡ a → ltb (length xs) columns ≡ b
      → cond a zero_vector (cond b (left_of columns (xs ++ ys) (length xs)) (vectors_at (xs ++ ys) (length xs + 1 - columns)))
      ≡ cond a zero_vector (cond b (left_of columns xs (length xs)) (vectors_at xs (length xs + 1 - columns)))
  right_by true b d e = refl
  right_by false true d e = left_done
  right_by false false d e =
      let h : columns ≤ length xs = grind (arith, nat_tests) in
      front (length xs + 1 - columns) (omega (arith, not_one (length xs + 1) columns d))

  pub vector_done : (m : Macroblock) → vector_for columns (xs ++ ys) (length xs) m ≡ vector_for columns xs (length xs) m
  vector_done Skipped = refl
  vector_done (Intra quantizer pattern blocks) = refl
  vector_done (Inter quantizer pattern d blocks) =
      let a = left_done in
      let b = above_by (ltb (length xs) columns) refl in
      let c = right_by (eqb ((length xs + 1) % columns) 0) (ltb (length xs) columns) refl refl in
      ap (λ (v : Vector). corrected v d) (middle_same _ _ _ _ _ _ a b c)

-- vectors
after_push : (columns : ℕ) (vs : List Vector) (ms : List Macroblock) (m : Macroblock)
    → vectors_after columns vs (ms ++ (m ∷ [])) ≡ vectors_after columns vs ms ++ (vector_for columns (vectors_after columns vs ms) (length (vectors_after columns vs ms)) m ∷ [])
unfolding vectors_after
after_push columns vs [] m = refl
after_push columns vs (x ∷ ms) m = after_push columns (vs ++ (vector_for columns vs (length vs) x ∷ [])) ms m

after_length : (columns : ℕ) (vs : List Vector) (ms : List Macroblock) → length (vectors_after columns vs ms) ≡ length vs + length ms
unfolding vectors_after
after_length columns vs [] = omega arith
after_length columns vs (m ∷ ms) =
    after_length columns (vs ++ (vector_for columns vs (length vs) m ∷ [])) ms ∙ omega (arith, length-append vs (vector_for columns vs (length vs) m ∷ []))

pub vectors_length : (columns : ℕ) (ms : List Macroblock) → length (vectors_of columns ms) ≡ length ms
unfolding vectors_of
vectors_length columns ms = omega (arith, after_length columns [] ms)

pub vectors_push : (columns : ℕ) (ms : List Macroblock) (m : Macroblock) → vectors_of columns (ms ++ (m ∷ [])) ≡ vectors_of columns ms ++ (vector_for columns (vectors_of columns ms) (length ms) m ∷ [])
unfolding vectors_of
vectors_push columns ms m =
    after_push columns [] ms m
    ∙ ap (λ n. vectors_after columns [] ms ++ (vector_for columns (vectors_after columns [] ms) n m ∷ [])) (omega (arith, after_length columns [] ms))

-- ages
pub ages_length : (ms : List Macroblock) (fs : List ℕ) → length (ages_of ms fs) ≡ length ms
unfolding ages_of
ages_length [] fs = refl
ages_length (m ∷ ms) [] = ap suc (ages_length ms [])
ages_length (m ∷ ms) (f ∷ fs) = ap suc (ages_length ms fs)

pub ages_push : (ms : List Macroblock) (m : Macroblock) (fs : List ℕ) → ages_of (ms ++ (m ∷ [])) fs ≡ ages_of ms fs ++ (next_age (is_intra m) (get_or fs (length ms) 0) ∷ [])
unfolding ages_of
ages_push [] m [] = refl
ages_push [] m (f ∷ fs) = refl
ages_push (x ∷ ms) m [] = ap (λ r. next_age (is_intra x) 0 ∷ r) (ages_push ms m [])
ages_push (x ∷ ms) m (f ∷ fs) = ap (λ r. next_age (is_intra x) f ∷ r) (ages_push ms m fs)

-- marks
pub marks_length : (ms : List Macroblock) → length (marks_of ms) ≡ length ms
unfolding marks_of
marks_length [] = refl
marks_length (m ∷ ms) = ap suc (marks_length ms)

pub marks_push : (ms : List Macroblock) (m : Macroblock) → marks_of (ms ++ (m ∷ [])) ≡ marks_of ms ++ (mark_of m ∷ [])
unfolding marks_of
marks_push [] m = refl
marks_push (x ∷ ms) m = ap (λ r. mark_of x ∷ r) (marks_push ms m)

-- one cell more of a table, by what is done
pub cell_more : {X : Type 0} (table entry done done' : List X) (i : ℕ) (v : X) → table ≡ done ++ drop i entry → length done ≡ i → i < length entry → done' ≡ done ++ (v ∷ [])
    → set table i v ≡ done' ++ drop (i + 1) entry
cell_more table entry done done' i v e l h d = rw (e, d) (set_next done entry i v l h)

pub vector_value : (columns : ℕ) (xs ys : List Vector) (i k : ℕ) (m : Macroblock) (r : Vector) → 0 < columns → length xs ≡ i → k ≡ i → r ≡ vector_for columns (xs ++ ys) i m → r ≡ vector_for columns xs k m
vector_value columns xs ys i k m r some l n e =
    e ∙ ap (λ j. vector_for columns (xs ++ ys) j m) (sym l) ∙ vector_done columns xs ys some m ∙ ap (λ j. vector_for columns xs j m) (l ∙ sym n)
