-- A block that is filled by columns. Assumes nothing.
use Rattle.std.proofs.Common.{◌≡◌, ℕ, ◌+◌, ◌*◌, ◌/◌, ◌%◌, ◌<◌, Bool, true, false, ◌&&◌, List, length, get_or, set, cond, eqb, ltb, ℤ, pos, ◌+ℤ◌, ◌*ℤ◌, sym, ap, ◌∙◌, subst, arith, length-set, get_or-set_same, get_or-set_other, ⊎_elim}
use Rattle.std.proofs.lemmas.Bool.{cases_eq, cond-true, cond-false, eq-eqb, ne_eqb}
use Rattle.std.proofs.lemmas.Bool.Decides.{nat_tests}
use Rattle.transform.specs.Sums.{floor}
use Rattle.transform.specs.SumLaws.{sum_same}
use Rattle.transform.specs.Factors.{cosine}
use Rattle.transform.specs.Blocks.{Gives}
use Rattle.transform.specs.Passes.{RowIs, after_pass, rounded_sum, weighed_row, weighed}

-- the first n numbers of a column are set, and every other place is as it was
abbrev set_so_far : ℕ → ℕ → ℕ → Bool
set_so_far v n p = eqb (p % 8) v && ltb (p / 8) n

abbrev pub Column : List ℤ → ℕ → ℕ → List ℤ → List ℤ → Type 0
Column column v n old xs = (length xs ≡ 64) × ((p : ℕ) → p < 64 → get_or xs p (pos 0) ≡ cond (set_so_far v n p) (get_or column (p / 8) (pos 0)) (get_or old p (pos 0)))

none_set : (v p : ℕ) → set_so_far v 0 p ≡ false
none_set v p = grind (arith, nat_tests)

set_now : (v n : ℕ) → v < 8 → set_so_far v (n + 1) (8 * n + v) ≡ true
set_now v n h = grind (arith, nat_tests)

set_as_before : (v n p : ℕ) → v < 8 → (p ≡ 8 * n + v → ⊥) → set_so_far v n p ≡ set_so_far v (n + 1) p
set_as_before v n p h f = grind (arith, nat_tests)

pub column_none : (column : List ℤ) (v : ℕ) (old : List ℤ) → length old ≡ 64 → Column column v 0 old old
column_none column v old len = (len, λ p h. sym (cond-false _ _ _ (none_set v p)))

pub column_more : (column : List ℤ) (v n : ℕ) (old xs : List ℤ) (z : ℤ) → v < 8 → n < 8 → z ≡ get_or column n (pos 0)
    → Column column v n old xs → Column column v (n + 1) old (set xs (8 * n + v) z)
column_more column v n old xs z hv hn e (len, before) = (
  simp length-set len,
  λ p h.
      ⊎_elim
      (λ (i : p ≡ 8 * n + v).
      let q : (8 * n + v) / 8 ≡ n = omega arith in
      let inside : 8 * n + v < length xs = omega arith in
      subst (λ k. get_or (set xs (8 * n + v) z) k (pos 0) ≡ cond (set_so_far v (n + 1) k) (get_or column (k / 8) (pos 0)) (get_or old k (pos 0))) (sym i)
      (get_or-set_same xs (8 * n + v) z (pos 0) inside ∙ e ∙ ap (λ k. get_or column k (pos 0)) (sym q) ∙ sym (cond-true _ _ _ (set_now v n hv))))
      (λ (f : p ≡ 8 * n + v → ⊥).
      get_or-set_other xs (8 * n + v) p z (pos 0) f
      ∙ before p h ∙ ap (λ b. cond b (get_or column (p / 8) (pos 0)) (get_or old p (pos 0))) (set_as_before v n p hv f))
      (cases_eq p (8 * n + v)),
)

-- the columns before v are f
abbrev pub Columns : (ℕ → ℤ) → ℕ → List ℤ → Type 0
Columns f v xs = (p : ℕ) → p < 64 → p % 8 < v → get_or xs p (pos 0) ≡ f p

row_after_pass : (x r : List ℤ) (half d p : ℕ) → RowIs r (λ u. get_or x (8 * (p % 8) + u) (pos 0)) → rounded_sum r half d (p / 8) ≡ after_pass x half d p
unfolding rounded_sum weighed_row after_pass weighed
row_after_pass x r half d p is = ap (λ z. floor (z +ℤ pos half) d) (sum_same 8 _ _ (λ u h. ap (λ z. cosine u (p / 8) *ℤ z) (is u h)))

pub columns_more : (x r s : List ℤ) (half d v : ℕ) (xs ys : List ℤ) → v < 8 → RowIs r (λ u. get_or x (8 * v + u) (pos 0)) → RowIs s (rounded_sum r half d)
    → Gives ys (λ p. cond (eqb (p % 8) v) (get_or s (p / 8) (pos 0)) (get_or xs p (pos 0)))
    → Columns (after_pass x half d) v xs → Columns (after_pass x half d) (v + 1) ys
columns_more x r s half d v xs ys hv is sums now before p h l =
    ⊎_elim
    (λ (i : p % 8 ≡ v).
    now p h ∙ cond-true _ _ _ (eq-eqb _ _ i) ∙ sums (p / 8) (omega arith)
    ∙ row_after_pass x r half d p (subst (λ k. RowIs r (λ u. get_or x (8 * k + u) (pos 0))) (sym i) is))
    (λ (f : p % 8 ≡ v → ⊥). now p h ∙ cond-false _ _ _ (ne_eqb _ _ f) ∙ before p h (omega arith))
    (cases_eq (p % 8) v)
