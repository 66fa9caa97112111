use Rattle.std.proofs.Common.{◌≡◌, ℕ, ◌/◌, ◌%◌, ◌<◌, eqb, [], ◌∷◌, get_or, sym, ap, ◌∙◌, arith, eqb→eq}
use Rattle.std.proofs.lemmas.List.{get_or_past}
use Rattle.transform.proofs.Finite.{below}
use Rattle.samples.specs.Deblocking.{strengths, strength_of}
use Rattle.samples.proofs.deblocking.strength_of.Goals as goal

-- the code's table
abbrev entry : ℕ → ℕ
entry q =
    get_or (get_or (
    (0 ∷ 1 ∷ 1 ∷ 2 ∷ 2 ∷ 3 ∷ 3 ∷ 4 ∷ [])
    ∷ (4 ∷ 4 ∷ 5 ∷ 5 ∷ 6 ∷ 6 ∷ 7 ∷ 7 ∷ [])
    ∷ (7 ∷ 8 ∷ 8 ∷ 8 ∷ 9 ∷ 9 ∷ 9 ∷ 10 ∷ [])
    ∷ (10 ∷ 10 ∷ 11 ∷ 11 ∷ 11 ∷ 12 ∷ 12 ∷ 12 ∷ []) ∷ []) (q / 8) []) (q % 8) 0

entry_is : (q : ℕ) → q < 32 → entry q ≡ get_or strengths q 0
entry_is q h = eqb→eq _ _ (below 32 (λ k. eqb (entry k) (get_or strengths k 0)) tt q h)

pub returns-then-at-lt32 : goal.returns-then-at-lt32
unfolding strength_of
returns-then-at-lt32 c = entry_is c.from-at.result c.if-at-lt32.true ∙ ap (λ q. get_or strengths q 0) c.from-at.ensures

pub returns-else-at-lt32 : goal.returns-else-at-lt32
unfolding strength_of
returns-else-at-lt32 c = sym (get_or_past strengths c.args.quantizer 0 (omega (arith, c.from-at.ensures)))
