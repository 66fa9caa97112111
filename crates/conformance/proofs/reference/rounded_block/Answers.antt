use Rattle.std.proofs.Common.{◌≡◌, ℕ, zero, suc, ◌+◌, ◌<◌, ◌≤◌, List, get_or, ℤ, pos, ◌≤ℤ◌, sym, ap, ◌∙◌, subst, arith, rules}
use native.Mathlib.Decide.{ℕ_discrete}
use denote.Param.Members.{Mut, Called}
use Rattle.std.specs.Array.{MapsFrom, IsMapOf}
use Rattle.conformance.proofs.reference.rounded_block.Goals as goal

-- calls that keep J, where J lets each give a number of P
module _ {F A : Type 0} (g : Mut F (A × Unit {0}) ℤ) (J : F → Type 0) (P : ℤ → Type 0) (step : (s t : F) (x : A) (y : ℤ) → Called g s (x, tt) y t → J s → P y × J t) where
  from_on : (xs : List A) (ys : List ℤ) (n i : ℕ) (s : F) → MapsFrom g s xs ys i n → J s → (p : ℕ) → i ≤ p → p < i + n → P (get_or ys p (pos 0))
  from_on xs ys zero i s m j p le lt = absurd (omega arith)
  from_on xs ys (suc n) i s (t, x, y, there, at, call, rest) j p le lt =
      let here = step s t x y call j in
      elim (ℕ_discrete p i) [
        | yes e ↦ subst P (sym (ap (λ k. get_or ys k (pos 0)) e ∙ at.1 (pos 0))) here.0
        | no ne ↦ from_on xs ys n (i + 1) t rest here.1 p (omega arith) (omega arith)
      ]

  each : (xs : List A) (ys : List ℤ) (s : F) → IsMapOf g s xs ys 64 → J s → (p : ℕ) → p < 64 → P (get_or ys p (pos 0))
  each xs ys s m j p h = from_on xs ys 64 0 s m.each j p (omega arith) h

pub returns : goal.returns
returns c =
    each _ (λ s. (s.0.now ≡ c.args.low) × (s.1.now ≡ c.args.high)) (λ z. (c.args.low ≤ℤ z) × (z ≤ℤ c.args.high)) (λ s t x y call j. search rules) _ _ _
    c.map.ensures.items (search rules, search rules)
