-- Numbers, one in each field.
use Rattle.std.proofs.Common.{◌≡◌, ℕ, suc, ◌+◌, ◌-◌, ◌<◌, ◌≤◌, List, [], ◌∷◌, ◌++◌, length, Bool, true, false, cond, Some, None, Ok, Err, Result, ◌==◌, refl, arith}
use Rattle.script.specs.declared.line.Mistake.{Mistake}
use Rattle.script.specs.declared.line.Mistake.TheVariants as mistake
use Rattle.script.specs.Fields.{after_field, field_of}
use Rattle.script.specs.Numbers.{number_in}
use Rattle.script.specs.Lines.{end_of, ended}
use Rattle.call_lines.specs.Lines.{numbers_after}

module _ (seen rest : List ℕ) (n i : ℕ) where
  one_left : i < n → n - i ≡ suc (n - (i + 1))
  one_left l = omega (arith, l)

  pub no_number : i < n → None ≡ number_in (field_of rest) → numbers_after seen (n - i) rest ≡ Err mistake.Number
  no_number l e = rw (one_left l, ← e) refl

  pub one_number : (m : ℕ) → i < n → Some m ≡ number_in (field_of rest) → numbers_after seen (n - i) rest ≡ numbers_after (seen ++ (m ∷ [])) (n - (i + 1)) (after_field rest)
  one_number m l e = rw (one_left l, ← e) refl

  pub none_left : n ≤ i → numbers_after seen (n - i) rest ≡ ended rest seen
  none_left l = let none : n - i ≡ 0 = omega (arith, l) in rw none refl

ended_by : (t : Bool) (xs : List ℕ) → ◌≡◌ {A = Result (Unit {0}) Mistake} (Ok tt) (cond t (Ok tt) (Err mistake.Fields)) → ◌≡◌ {A = Result (List ℕ) Mistake} (Ok xs) (cond t (Ok xs) (Err mistake.Fields))
ended_by true xs e = refl
ended_by false xs e = grind arith

pub at_end : (rest xs : List ℕ) → Ok tt ≡ end_of rest → Ok xs ≡ ended rest xs
at_end rest xs e = ended_by (length (field_of rest) == 0) xs e
