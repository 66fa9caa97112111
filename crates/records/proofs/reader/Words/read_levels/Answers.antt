use Rattle.std.proofs.Common.{sym, ◌∙◌, length-set, w8, SFits, rules}
use Rattle.std.proofs.lemmas.Int.{to_z-of_z}
use Rattle.std.proofs.lemmas.Result.{err_from_is_err_and}
use Rattle.records.specs.Reading.{unread_of}
use Rattle.records.proofs.Turns.{missing, refused, ended, goes_on, shorter}
use Rattle.records.proofs.reader.Words.read_levels.Goals as goal

pub returns-in_err-word : goal.returns-in_err-word
returns-in_err-word c =
    let p = err_from_is_err_and c.from_residual.result c.from_residual.ensures.1 in
    rw (p.1, p.2) (sym (missing _ _ _ (unread_of c.loop-word.self).0 _ c.loop-word.from c.loop-word.levels _ c.place-place.ensures c.in_err-word.ensures) ∙ c.loop-word.invariant.0)

pub returns-in_err-found : goal.returns-in_err-found
returns-in_err-found c =
    let p = err_from_is_err_and c.from_residual-in_err-found.result c.from_residual-in_err-found.ensures.1 in
    rw (p.1, p.2) (sym (refused _ _ _ (unread_of c.loop-word.self).0 _ c.loop-word.from c.loop-word.levels _ _ _ c.place-place.ensures c.in_ok-word.ensures c.in_err-found.ensures.value) ∙ c.loop-word.invariant.0)

pub returns-then-found : goal.returns-then-found
returns-then-found c =
    let fits : SFits w8 c.in_ok-found.found.level = search rules in
    sym (ended _ _ _ (unread_of c.loop-word.self).0 _ c.loop-word.from c.loop-word.levels _ _ _ _ c.place-place.ensures c.in_ok-word.ensures c.in_ok-found.ensures.value (to_z-of_z w8 _ fits) c.if-found.true) ∙ c.loop-word.invariant.0

pub loop-word-smaller : goal.loop-word-smaller
loop-word-smaller c = shorter _ _ _ _ _ c.in_ok-word.ensures

pub loop-word-preserved : goal.loop-word-preserved
loop-word-preserved c =
    let fits : SFits w8 c.in_ok-found.found.level = search rules in (
      sym (goes_on _ _ _ (unread_of c.loop-word.self).0 _ c.loop-word.from c.loop-word.levels _ _ _ _ c.place-place.ensures c.in_ok-word.ensures c.in_ok-found.ensures.value (to_z-of_z w8 _ fits) c.if-found.false) ∙ c.loop-word.invariant.0,
      simp length-set c.loop-word.invariant.1,
    )
