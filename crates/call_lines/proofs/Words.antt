-- A word by its bytes.
use Rattle.std.proofs.Common.{◌≡◌, ℕ, zero, suc, ◌+◌, List, [], ◌∷◌, length, get_or, drop, ap, ◌∙◌, arith}
use Rattle.std.proofs.lemmas.List.{drop_all, drop_more}

-- so many elements from a place on
abbrev pub elements : List ℕ → ℕ → ℕ → List ℕ
elements xs i zero = []
elements xs i (suc n) = get_or xs i 0 ∷ elements xs (i + 1) n

pub spelled : (xs : List ℕ) (i n : ℕ) → length xs ≡ i + n → drop i xs ≡ elements xs i n
spelled xs i zero e = drop_all i xs (omega (arith, e))
spelled xs i (suc n) e = drop_more xs i 0 (omega (arith, e)) ∙ ap (λ ys. get_or xs i 0 ∷ ys) (spelled xs (i + 1) n (omega (arith, e)))
