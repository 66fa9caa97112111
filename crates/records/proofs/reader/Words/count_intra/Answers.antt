use Rattle.std.proofs.Common.{◌≡◌, ◌≤◌, Bool, true, false, cond, sym, refl, ap, ◌∙◌, arith}
use mir.Val.{bool_byte}
use Rattle.std.proofs.lemmas.Result.{err_from_is_err_and}
use Rattle.records.specs.Reading.{unread_of}
use Rattle.records.proofs.Deliveries.{done, stop, more}
use Rattle.records.proofs.reader.Words.count_intra.Goals as goal

-- `usize::from` of a test
byte_is : (b : Bool) → bool_byte b ≡ cond b 1 0
byte_is true = refl
byte_is false = refl

byte_small : (b : Bool) → bool_byte b ≤ 1
byte_small true = omega arith
byte_small false = omega arith

pub returns-in_err-found : goal.returns-in_err-found
returns-in_err-found c =
    let p = err_from_is_err_and c.from_residual.result c.from_residual.ensures.1 in
    rw (p.1, p.2) (sym (sym c.loop-macroblock.invariant.0 ∙ stop _ _ _ c.loop-macroblock.intra (unread_of c.loop-macroblock.self) _ c.loop-macroblock-test.true c.in_err-found.ensures))

pub loop-macroblock-preserved : goal.loop-macroblock-preserved
loop-macroblock-preserved c = (
  sym (more _ _ _ c.loop-macroblock.intra (unread_of c.loop-macroblock.self) _ _ _ c.loop-macroblock-test.true c.in_ok-found.ensures (c.from-intra.ensures ∙ byte_is _ ∙ ap (λ b. cond b 1 0) c.is_intra.ensures)) ∙ c.loop-macroblock.invariant.0,
  omega (arith, c.from-intra.ensures, byte_small c.is_intra.result, c.loop-macroblock.invariant.1),
)

pub returns : goal.returns
returns c = sym (sym c.loop-macroblock.invariant.0 ∙ done _ _ _ c.loop-macroblock.intra (unread_of c.loop-macroblock.self) c.loop-macroblock-test.false)
