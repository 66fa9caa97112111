-- `kept` lends what lies behind the pointer, and the handle follows it.
use Rattle.std.proofs.Common.{◌≡◌, ℕ, List, [], ◌∷◌, refl, sym}
use seplogic.Ra.Ura.{Ura}
use base.Fraction.{full_share}
use mir.Syntax.{Fn, named}
use mir.Val.{Val, vptr}
use base.Logic.{SProp, ent, sep}
use base.Fml.{Lft, GName, Share, Fml, ftrue, fsep, flft}
use prog.Wp.{Env}
use prog.Memory.{Memory}
use prog.Routine.{Routine}
use types.Logic.{Logic, sem}
use types.Kit.{‵, raw, ◌⊛◌, some, later, at_ret, ◌$◌, ◌∵◌, !, qed, by, move, keep, drop, use1, split, join, pick, fsplit, fsplit3, fjoin, fpack, await, group, rewrite, suffices, frame, done}
use types.Part.{whole, sub, look_in}
use types.Run.{stop, fld, load, addr, of_opd, first, blocks, exec, returns, enter}
use types.ByLocal.{alloc_all, pass_all, free_all, look_at, get, through, sets, sets_last, env}
use contract.Monad.{Fun}
use contract.Running.{tables}
use denote.Exit.{no}
use denote.Follow.{follows, Part, lends_Part}
use denote.Memory.{part_at, mem, cell_at, part_of}
use denote.RattleType.{RattleType}
use denote.RawPtr.{Ptr, block_ptr}
use denote.Ref.{MutRef, mut_vals, mut_Tells}
use denote.Signature.{plain, mut_ref_to}
use denote.Steps.{nothing}
use denote.Triple.Clauses.{Clauses}
use denote.Triple.Walked.{says, Stays, stay_dropped, walk_of, ends_at, Goes-spent_ref}
use Rattle.core.proofs.alloc.Shapes.{after}
use Rattle.std.proofs.raw_atomic.Walks.{proved}
use Rattle.std.specs.contracts.alloc.Global as heap
use Rattle.std.proofs.alloc.Global.TheLaws as heap_laws
use Rattle.std.specs.contracts.impls.GlobalAllocator.TheImpl.{ghosts}
use Rattle.handles.specs.declared.handle.ReelHandle.{ReelHandle}
use Rattle.handles.specs.declared.kept.KeptReel.{KeptReel}
use Rattle.handles.specs.Handles.{with_kept}
use Rattle.handles.specs.contracts.kept.KeptReel as kept
use Rattle.handles.specs.contracts.handle.ReelHandle as handle
use Rattle.handles.proofs.Values.{two_words, raw_box_in, handle_opens, token}
use Rattle.handles.specs.contracts.handle.ReelHandle.kept.{ended, clauses}
use Rattle.handles.specs.contracts.handle.ReelHandle.kept.Key.{name as #self}
use Rattle.handles.proofs.handle.ReelHandle.kept.Statement.{statement}
use Rattle.handles.proofs.handle.ReelHandle.kept.Code as code

abbrev B : RattleType
B = handle.the_row

abbrev R : RattleType
R = kept.the_row

abbrev Z : RattleType
Z = heap.the_row

abbrev stayed : Stays ended.signature.params ended.kept
stayed = (stay_dropped (mut_ref_to (0 ∷ []) tt (plain (λ _. B))) no, tt)

module _ {M : Type 1} {𝓤 : Ura M} (𝓛 : Logic 𝓤) (at_mem : Memory → SProp 𝓤) (run : Routine → Fun 𝓤) (κ : Lft) (q : Share) (rb ro : ℕ) (γ : GName) (h : ReelHandle) where
  open 𝓛 use {A}

  abbrev c : Clauses 𝓤 ended
  c = clauses 𝓛 at_mem run

  abbrev bound : (walk_of 𝓛 ended stayed c).Ghost
  bound = (((κ, tt), (q, tt), tt, (record { ref_ptr = (rb, ro); ghost_name = γ; now = h }, tt), (vptr rb ro ∷ [], tt)), tt)

  abbrev Post : Val → SProp 𝓤
  Post = (walk_of 𝓛 ended stayed c).post bound

  module _ (b o : ℕ) (v : Val) where
    -- all of the handle but the reel
    abbrev Rest : Fml
    Rest = fsep (fsep (token h.alloc b o) (Z.own_val h.alloc (v ∷ []))) (cell_at full_share B.mir (two_words (vptr b o) v ∷ []) rb ro)

    back : h.at ≡ block_ptr b o → (w : KeptReel) → ent 𝓤 (sep 𝓤 (sem 𝓛 ((mem R).own_at w b o)) (sem 𝓛 Rest)) (sem 𝓛 ((mem B).own_at (with_kept h w) rb ro))
    unfolding part_of
    back at_b w =
        qed 𝓛 (‵ (part_at R full_share w b o) ∷ ‵ Rest ∷ []) ∵ move ! (1 ∷ []) $ fsplit ! $ fsplit ! $ move ! (3 ∷ 0 ∷ []) $ fjoin ! $
        raw_box_in R Z heap_laws.the_row_laws ghosts ! b o v h.alloc w $ rewrite ! 0 (λ (p : Ptr). ‵ (B.own_val (record { at = p; alloc = h.alloc; kept = w }) (two_words (vptr b o) v ∷ []))) (sym at_b) refl $
        move ! (1 ∷ 0 ∷ []) $ fjoin ! $ fpack ! (List Val) (λ us. fsep (cell_at full_share B.mir us rb ro) (B.own_val (with_kept h w) us)) (two_words (vptr b o) v ∷ []) $ done !

    exits : (γ' : GName)
        → ent 𝓤 (sep 𝓤 (sem 𝓛 ((MutRef (named 0) κ R).own_val (record { ref_ptr = (b, o); ghost_name = γ'; now = h.kept }) (vptr b o ∷ []))) (sep 𝓤 (A.lft κ q) (sem 𝓛 (follows B R γ γ' (with_kept h))))) (Post (vptr b o))
    exits γ' =
        qed 𝓛 (‵ ((MutRef (named 0) κ R).own_val (record { ref_ptr = (b, o); ghost_name = γ'; now = h.kept }) (vptr b o ∷ [])) ∷ ‵ (flft κ q) ∷ ‵ (follows B R γ γ' (with_kept h)) ∷ []) ∵
        suffices ! _ (ends_at 𝓛 ended stayed c bound (vptr b o) (record { ref_ptr = (b, o); ghost_name = γ'; now = h.kept }) (tt, tt) (tt, tt)) $
        nothing ! $ nothing ! $ fjoin ! $ join ! $ nothing ! $ move ! (2 ∷ 0 ∷ []) $ join ! $ join ! $ frame ! $ says ! refl $ done !

pub kept_spec : {M : Type 1} → statement M
kept_spec 𝓤 𝓛 𝓜 𝓡 wired =
    let H = 𝓛.H in let 𝓣 = tables 𝓤 H 𝓜 𝓡 𝓡.env in let fn : Fn = code.function in
    proved 𝓛 ended stayed (clauses 𝓛 𝓜.mem 𝓡.returns) 𝓜 𝓡 (Goes-spent_ref 𝓛 1 (0 ∷ []) tt (plain (λ _. B)), tt) #self fn (code.unfolded 𝓤 H 𝓜 𝓡 wired)
    (λ κs. (mut_vals, tt)) (λ κs. (mut_Tells (named 0) κs.0 B, tt)) (λ κs qs bounds a g are.
    let κ = κs.0 in let q = qs.0 in let rb = a.0.ref_ptr.0 in let ro = a.0.ref_ptr.1 in let γ = a.0.ghost_name in let h = a.0.now in
    let P : Val → SProp 𝓤 = Post 𝓛 𝓜.mem 𝓡.returns κ q rb ro γ h in
    qed 𝓛 (((‵ (flft κ q) ⊛ ‵ ftrue) ⊛ ‵ ((MutRef (named 0) κ B).own_val a.0 (vptr rb ro ∷ [])) ⊛ ‵ ftrue) ∷ ‵ ftrue ∷ []) ∵
    split ! $ split ! $ move ! (2 ∷ []) $ split ! $ keep ! (0 ∷ 2 ∷ []) $
    enter ! 𝓣.C 𝓣.Λ fn (vptr rb ro ∷ []) P $ alloc_all ! (λ l. pass_all ! refl ((tt, tt), tt) $
    let En : Env 𝓤 H = env fn.locals l in
    fsplit3 ! $ drop ! $ handle_opens ! tt h rb ro (λ b o v at_b.
    -- self.at as *mut KeptReel
    first ! $ blocks ! $ sets ! (of_opd ! (load ! (through ! refl (fld ! refl (stop !))) (look_in ! 2 (sub ! 0 refl (whole !))))) refl (tt, tt) $ sets ! (of_opd ! (get ! refl)) refl (tt, tt) $
    -- &mut *
    sets_last ! (addr ! (through ! refl (stop !))) refl (tt, tt) $ exec ! 𝓣.C 𝓣.Λ En (after 1 fn.body) (at_ret En P) $ sets ! (of_opd ! (get ! refl)) refl (tt, tt) $
    move ! (1 ∷ 2 ∷ []) $ fjoin ! $ move ! (2 ∷ 3 ∷ 4 ∷ 1 ∷ 0 ∷ []) $ group ! 5 $
    let rest = sem 𝓛 (Rest 𝓛 𝓜.mem 𝓡.returns κ q rb ro γ h b o v) in let returned = back 𝓛 𝓜.mem 𝓡.returns κ q rb ro γ h b o v at_b in
    use1 𝓛 (later (some (λ (γ' : GName). raw (Part 𝓛 B R (with_kept h) (named 0) κ q rb ro b o γ rest returned h.kept γ'))))
    (lends_Part 𝓛 B R (with_kept h) (named 0) κ q rb ro b o γ rest returned (B.coded.code h) (B.coded.code h) h.kept) $ await ! tt $ pick ! (λ γ'.
    returns ! (look_at ! 0 refl) $ free_all ! refl $ keep ! (0 ∷ []) $ by ! (exits 𝓛 𝓜.mem 𝓡.returns κ q rb ro γ h b o v γ')))))
