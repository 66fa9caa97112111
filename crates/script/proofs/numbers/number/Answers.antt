use Rattle.std.proofs.Common.{◌≡◌, ℕ, Bor, Some, None, Option, sym, ap, ◌∙◌, arith, false-eqb, rules}
use Rattle.std.specs.Option.{MatchOption}
use Rattle.script.specs.Numbers.{digit_more, digits_from}
use Rattle.script.proofs.Digits.{digits_end, digits_left, some_digits}
use Rattle.script.proofs.numbers.number.Goals as goal

-- the digit that broke the reading off
broke : {X : Bor ℕ → Type 0} (o : Option (Bor ℕ)) (a : ℕ) (r : Option ℕ) → ((x : Bor ℕ) → X x → (None ≡ digit_more a x.now) × (r ≡ None)) → MatchOption o (r ≡ Some a) X → MatchOption o (r ≡ Some a) (λ x. (None ≡ digit_more a x.now) × (r ≡ None))
broke None a r f e = e
broke (Some x) a r f e = f x e

pub returns : goal.returns
returns c =
    let ran = c.try_fold.ensures.ran in
    let left = digits_left _ (λ p. p.1) (λ p x q k. sym k.2 ∙ (search rules)) ran.0 c.iter.result ran.4.0 (tt, 0) (ran.2, ran.3) ran.4.1 ran.5 in
    let last = digits_end ran.1 ran.4.0 c.try_fold.new.self ran.3 c.try_fold.result ran.4.2 (broke ran.1 ran.3 c.try_fold.result (λ x e. (sym e.4 ∙ (search rules), e.5)) ran.6) in
    last ∙ sym left ∙ ap (digits_from 0) c.iter.ensures.rest ∙ sym (some_digits c.args.field.now (omega (arith, false-eqb _ _ c.if-is_empty.ensures)))
