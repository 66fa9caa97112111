-- A number by its digits.
use Rattle.std.proofs.Common.{◌≡◌, ℕ, ◌<◌, List, [], ◌∷◌, length, Some, None, Option, Bor, Iter, refl, ◌∙◌, arith}
use Rattle.std.specs.Iterator.{Yields}
use Rattle.std.specs.List.{FoldsTo}
use Rattle.std.specs.Option.{MatchOption}
use Rattle.std.proofs.lemmas.Fn.{fronts}
use Rattle.script.specs.Numbers.{digit_more, digits_from, number_in}

pub some_digits : (bs : List ℕ) → 0 < length bs → number_in bs ≡ digits_from 0 bs
some_digits [] h = absurd (omega (arith, h))
some_digits (b ∷ bs) h = refl

module _ {P : Type 0} (turn : P → Bor ℕ → P → Type 0) (value : P → ℕ) (step : (p : P) (x : Bor ℕ) (q : P) → turn p x q → Some (value q) ≡ digit_more (value p) x.now) where
  -- what the digits left lead to stays the same from turn to turn
  pub digits_left : (xs : List (Bor ℕ)) (s t : Iter ℕ) (p q : P) → Yields fronts s xs t → FoldsTo turn p xs q → digits_from (value p) s.rest.now ≡ digits_from (value q) t.rest.now
  digits_left [] s t p q yields folds = rw (yields, folds) refl
  digits_left (x ∷ xs) s t p q yields folds = rw (yields.1, ← step p x folds.0 folds.1) (digits_left xs yields.0 t folds.0 q yields.2 folds.2)

no_digits : (bs : List ℕ) (a : ℕ) → length bs ≡ 0 → Some a ≡ digits_from a bs
no_digits [] a h = refl
no_digits (b ∷ bs) a h = absurd (omega (arith, h))

-- no digit is left, or the next one is none
pub digits_end : (o : Option (Bor ℕ)) (t u : Iter ℕ) (a : ℕ) (r : Option ℕ) → fronts t o u → MatchOption o (r ≡ Some a) (λ x. (None ≡ digit_more a x.now) × (r ≡ None)) → r ≡ digits_from a t.rest.now
digits_end None t u a r stops e = e ∙ no_digits t.rest.now a stops.0
digits_end (Some x) t u a r stops e = rw (stops, ← e.0) e.1
