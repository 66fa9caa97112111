-- The bytes up to one that passes a test.
use Rattle.std.proofs.Common.{◌≡◌, ℕ, zero, suc, ◌<◌, ◌≤◌, Bool, true, false, cond, List, [], ◌∷◌, ◌++◌, length, take, drop, sym, refl, ap, ◌∙◌, arith, length-append}
use Rattle.std.proofs.lemmas.List.{drop_at, take_at}
use Rattle.std.specs.List.{AllWithin, HoldsAt}
use Rattle.script.specs.Fields.{begun_by, from_on, is_line_feed, lines_of, up_to}

module _ (stop : ℕ → Bool) where
  -- a list is what comes before, and then the rest
  by_test : (b : ℕ) (bs : List ℕ) (t : Bool) → up_to stop bs ++ from_on stop bs ≡ bs → cond t [] (b ∷ up_to stop bs) ++ cond t (b ∷ bs) (from_on stop bs) ≡ b ∷ bs
  by_test b bs true e = refl
  by_test b bs false e = ap (λ xs. b ∷ xs) e

  two_parts : (bs : List ℕ) → up_to stop bs ++ from_on stop bs ≡ bs
  two_parts [] = refl
  two_parts (b ∷ bs) = by_test b bs (stop b) (two_parts bs)

  pub take_up_to : (bs : List ℕ) → take (length (up_to stop bs)) bs ≡ up_to stop bs
  take_up_to bs = ap (take (length (up_to stop bs))) (sym (two_parts bs)) ∙ take_at (up_to stop bs) (from_on stop bs) (length (up_to stop bs)) refl

  pub drop_up_to : (bs : List ℕ) → drop (length (up_to stop bs)) bs ≡ from_on stop bs
  drop_up_to bs = ap (drop (length (up_to stop bs))) (sym (two_parts bs)) ∙ drop_at (up_to stop bs) (from_on stop bs) (length (up_to stop bs)) refl

  pub from_on_le : (bs : List ℕ) → length (from_on stop bs) ≤ length bs
  from_on_le bs = omega (arith, ap length (two_parts bs), length-append (up_to stop bs) (from_on stop bs))

  -- the first place that passes, as it is found from the front
  pub first_place : (bs : List ℕ) (i : ℕ) → i ≤ length bs → AllWithin (λ b. stop b ≡ false) bs 0 i → (i < length bs → HoldsAt (λ b. stop b ≡ true) bs i) → length (up_to stop bs) ≡ i
  first_place [] i l none here = omega (arith, l)
  first_place (b ∷ bs) zero l none here = rw (here (omega arith) 0) refl
  first_place (b ∷ bs) (suc i) l none here =
      rw (none 0 0 (omega arith) (omega arith))
      (ap suc (first_place bs i (omega (arith, l)) (λ k d low high. none (suc k) d (omega arith) (omega (arith, high))) (λ below d. here (omega (arith, below)) d)))

-- the first line, and then the others
begun : (b : ℕ) (bs : List ℕ) (t : Bool) → lines_of bs ≡ up_to is_line_feed bs ∷ lines_of (drop 1 (from_on is_line_feed bs))
    → cond t ([] ∷ lines_of bs) (begun_by b (lines_of bs)) ≡ cond t [] (b ∷ up_to is_line_feed bs) ∷ lines_of (drop 1 (cond t (b ∷ bs) (from_on is_line_feed bs)))
begun b bs true e = refl
begun b bs false e = ap (begun_by b) e

alone : (b : ℕ) (t : Bool) → cond t ([] ∷ []) (begun_by b []) ≡ cond t [] (b ∷ []) ∷ lines_of (drop 1 (cond t (b ∷ []) []))
alone b true = refl
alone b false = refl

pub first_line : (bs : List ℕ) → 0 < length bs → lines_of bs ≡ up_to is_line_feed bs ∷ lines_of (drop 1 (from_on is_line_feed bs))
first_line [] some = absurd (omega (arith, some))
first_line (b ∷ []) some = alone b (is_line_feed b)
first_line (b ∷ c ∷ bs) some = begun b (c ∷ bs) (is_line_feed b) (first_line (c ∷ bs) (omega arith))
