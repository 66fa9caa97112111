-- `of` hands what the box owned to the slot.
use Rattle.std.proofs.Common.{[], ◌∷◌, refl, ◌≡◌}
use mir.Syntax.{Fn}
use mir.Val.{Val, vptr}
use types.Kit.{‵, ◌$◌, ◌∵◌, !, qed, by, keep, fsplit}
use types.Run.{stop, fld, of_opd, no_more, and_then, returns, enter}
use types.ByLocal.{alloc_all, pass_all, free_all, look_at, get, get_in, sets}
use types.Part.{agg, sub, whole}
use contract.Running.{tables}
use denote.RattleType.{RattleType}
use denote.RawPtr.{block_ptr}
use Rattle.std.specs.contracts.alloc.Global as heap
use Rattle.std.proofs.alloc.Global.TheLaws as heap_laws
use Rattle.std.specs.contracts.impls.GlobalAllocator.TheImpl.{ghosts}
use Rattle.core.specs.declared.option.Option.TheVariants.{Some}
use Rattle.handles.specs.contracts.handle.ReelHandle as handle
use Rattle.handles.specs.contracts.slot.ReelSlot as slot
use Rattle.handles.proofs.Values.{two_words, one_word, raw_box_good, slot_in}
use Rattle.handles.proofs.HandedOn.{as_raw, handed_on, parts}
use Rattle.handles.specs.contracts.slot.ReelSlot.of.Key.{name as #self}
use Rattle.handles.proofs.slot.ReelSlot.of.Statement.{statement}
use Rattle.handles.proofs.slot.ReelSlot.of.Code as code

pub of_spec : {M : Type 1} → statement M
of_spec 𝓤 𝓛 𝓜 𝓡 wired =
    let 𝓣 = tables 𝓤 𝓛.H 𝓜 𝓡 𝓡.env in let R : RattleType = handle.the_row in let fn : Fn = code.function in
    handed_on 𝓤 𝓛 𝓜 𝓡 R (as_raw R) slot.the_row (λ d q. q.handle ≡ Some d.value) #self fn (code.unfolded 𝓤 𝓛.H 𝓜 𝓡 wired) (λ d b o h fits Post lands.
    let w : Val = two_words (vptr b o) h in let typed = raw_box_good R heap.the_row heap_laws.the_row_laws ghosts b o h fits in
    qed 𝓛 (‵ (parts (as_raw R) d b o h) ∷ []) ∵ enter ! 𝓣.C 𝓣.Λ fn (w ∷ []) Post $ alloc_all ! (λ l. pass_all ! refl (typed, tt) $
    sets ! (of_opd ! (get_in ! (fld ! refl (stop !)) (sub ! 0 refl (whole !)))) refl (tt, tt) $ sets ! (agg ! (and_then ! (get ! refl) (no_more !))) refl (tt, (tt, tt)) $
    fsplit ! $ slot_in ! b o d.value $ returns ! (look_at ! 0 refl) $ free_all ! refl $ keep ! (0 ∷ []) $
    by ! (lands (record { at = block_ptr b o; handle = Some d.value }) (one_word (vptr b o)) refl)))
