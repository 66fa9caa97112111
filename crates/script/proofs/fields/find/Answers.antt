use Rattle.std.proofs.Common.{◌≡◌, ℕ, ◌<◌, length, true, false, Bool, List, Some, None, Option, sym, ◌∙◌, arith}
use Rattle.std.specs.List.{AllWithin, HoldsAt}
use Rattle.std.specs.Option.{MatchOption, unwrap_or}
use Rattle.std.proofs.lemmas.Iterator.{IsFirst-from_position, YieldsList-from_slice}
use Rattle.script.specs.Fields.{up_to}
use Rattle.script.proofs.Spans.{first_place}
use Rattle.script.proofs.fields.find.Goals as goal

-- where none passes all stand before it
or_all : (stop : ℕ → Bool) (bs : List ℕ) (r : Option ℕ)
    → MatchOption r (AllWithin (λ b. stop b ≡ false) bs 0 (length bs)) (λ i. (i < length bs) × HoldsAt (λ b. stop b ≡ true) bs i × AllWithin (λ b. stop b ≡ false) bs 0 i)
    → unwrap_or r (length bs) ≡ length (up_to stop bs)
or_all stop bs None none = sym (first_place stop bs (length bs) (omega arith) none (λ l. absurd (omega (arith, l))))
or_all stop bs (Some i) first = sym (first_place stop bs i (omega (arith, first.0)) first.2 (λ l. first.1))

pub returns-clause-place : goal.returns-clause-place
returns-clause-place g c stop tests =
    let first = IsFirst-from_position _ _ c.position.result (λ b. stop b ≡ true) (λ b. stop b ≡ false) c.position.ensures.ran (YieldsList-from_slice c.args.bytes.now c.iter.ensures.rest)
    (λ x q k. sym (tests x true ((g.met.F.FnMut.1.post_iff c.args.stops (x, tt) true).1 (q, record { met = k.met }))))
    (λ x q k. (g.met.F.Fn.1.step_stays c.args.stops (x, tt) false q (record { met = k.met }), sym (tests x false ((g.met.F.FnMut.1.post_iff c.args.stops (x, tt) false).1 (q, record { met = k.met }))))) in
    c.unwrap_or.ensures ∙ or_all stop c.args.bytes.now c.position.result first
