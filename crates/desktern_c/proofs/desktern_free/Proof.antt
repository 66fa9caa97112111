-- `desktern_free` hands what C gives back to `release`, and returns at a null pointer.
use Rattle.std.proofs.Common.{◌≡◌, ℕ, List, [], ◌∷◌, ◌++◌, refl, sym, ap, ◌∙◌, subst, lit<}
use seplogic.Ra.Ura.{Ura}
use mir.Syntax.{Fn}
use mir.Raw.{raw as bare}
use mir.Val.{Val, vunit, vptr, vnull}
use base.Logic.{SProp, ent, via, id⊢, never, fst∗, snd∗, guard_i}
use base.Fraction.{full_share}
use base.Fml.{ftrue}
use prog.Wp.{WpFn}
use types.Logic.{Logic, sem}
use types.Kit.{Item, Goal, Seq, Sq, ‵, raw, ◌⊛◌, some, given, later, prop, at_ret, ◌$◌, ◌∵◌, !, qed, by, move, drop, split, join, fsplit, fjoin, feq_l, feq_i, pick, learn, await, use1, suffices}
use types.Run.{of_opd, bin, lit, unit_lit, no_more, and_then, first, branches, skips, exec, returns, returns_within, enter}
use types.ByLocal.{alloc_all, pass_all, free_all, look_at, get, sets, lands_as, env}
use types.Part.{agg}
use contract.Monad.{fact_use}
use contract.Running.{tables}
use denote.Builtin.{RawPtr, unit}
use denote.Exit.{yes}
use denote.Memory.{lone}
use denote.RattleType.{RattleType, owns}
use denote.RawPtr.{Ptr, block_ptr, null_ptr, ptr_val, lies_at, in_a_block, Testable, tests_null}
use denote.Signature.{types_at, plain}
use denote.Steps.{nothing, only, heard}
use denote.Triple.Call.{calls_at}
use denote.Triple.Clauses.{Lasts, lasts}
use denote.Triple.Entry.{alive}
use denote.Triple.Spec.{triple_of}
use denote.Triple.Walked.{Stays, stay_dropped, walk_of, Goes-dropped}
use Rattle.core.proofs.alloc.Calls.{handle_tells}
use Rattle.core.proofs.atomic.Steps.{fm}
use Rattle.std.proofs.raw_atomic.Walks.{proved_at, leaves}
use Rattle.std.proofs.GlobalToken.{dealloc_token-Testable}
use Rattle.core.specs.declared.option.Option.{Option}
use Rattle.core.specs.declared.option.Option.TheVariants.{None, Some}
use Rattle.std.specs.contracts.alloc.Global as heap
use Rattle.std.proofs.alloc.Global.TheLaws as heap_laws
use Rattle.std.specs.contracts.impls.GlobalAllocator.TheImpl.{ghosts}
use Rattle.handles.specs.Handles.{handle_owned, slot_owns}
use Rattle.handles.specs.contracts.handle.ReelHandle as handle
use Rattle.handles.proofs.Values.{al, two_words, raw_box_good, raw_box_in}
use Rattle.handles.specs.contracts.calling.release as callee
use Rattle.handles.proofs.calling.release.Met.{met}
use Rattle.desktern_c.specs.contracts.desktern_free.{ended, clauses, requires-null}
use Rattle.desktern_c.specs.contracts.desktern_free.Key.{name as #self}
use Rattle.desktern_c.proofs.desktern_free.Statement.{statement}
use Rattle.desktern_c.proofs.desktern_free.Code as code

abbrev R : RattleType
R = handle.the_row

module _ {M : Type 1} {𝓤 : Ura M} {𝓛 : Logic 𝓤} {K : Type 0} {Γ : List (Item 𝓤)} {G : Goal 𝓤 𝓛.H} where
  -- what C gives back is null, or a handle lies there whose pointer may be compared with null
  given_back : K → (p : Ptr) (behind : Option R.Denot) → (behind ≡ None → p ≡ null_ptr) → (p ≡ null_ptr → Seq K 𝓛 Γ G)
      → ((b o : ℕ) (x : R.Denot) → p ≡ block_ptr b o → Testable (block_ptr b o) → Seq K 𝓛 (‵ (handle_owned (block_ptr b o) x) ∷ Γ) G) → Seq K 𝓛 (‵ (slot_owns p behind) ∷ Γ) G
  given_back t p None null none one = drop t $ none (null refl)
  given_back t p (Some x) null none one =
      in_a_block t p (λ q. handle_owned q x) (fst∗ 𝓤 (never 𝓤) (sem 𝓛 (ghosts.dealloc_token x.alloc (bare (lone R.mir)) null_ptr))) (λ b o e.
      let q : Ptr = block_ptr b o in let right = ghosts.dealloc_token x.alloc (bare (lone R.mir)) q in
      use1 𝓛 (given (Testable q) (‵ (handle_owned q x)))
      (fact_use 𝓤 (Testable q) (via 𝓤 _ (snd∗ 𝓤 (sem 𝓛 (lies_at R full_share q x)) (sem 𝓛 right)) (dealloc_token-Testable 𝓛 x.alloc (bare (lone R.mir)) q)) (guard_i 𝓤 (Testable q) (sem 𝓛 (handle_owned q x)))) $
      learn t (λ may. one b o x e may))

pub desktern_free_spec : {M : Type 1} → statement M
desktern_free_spec 𝓤 𝓛 𝓜 𝓡 wired =
    let H = 𝓛.H in let 𝓣 = tables 𝓤 H 𝓜 𝓡 𝓡.env in let Z : RattleType = heap.the_row in let LZ = heap_laws.the_row_laws in
    let En = ended in let c = clauses 𝓛 𝓜.mem 𝓡.returns in let fn : Fn = code.function in
    let hs : Stays En.signature.params En.kept = (stay_dropped (plain (λ _. Z)) yes, (stay_dropped (plain (λ _. RawPtr)) yes, tt)) in
    proved_at 𝓛 En hs c 𝓜 𝓡 (Goes-dropped 𝓛 0 (plain (λ _. Z)) yes (λ κs x f. refl), (Goes-dropped 𝓛 0 (plain (λ _. RawPtr)) yes (λ κs x f. refl), tt)) #self fn (code.unfolded 𝓤 H 𝓜 𝓡 wired) (λ z are.
    let a = z.0.3.0 in let p = z.0.3.1.0 in let us = z.0.4.0 in let vs = z.0.4.1.0 in let behind = z.1 in
    let Post : Val → SProp 𝓤 = (walk_of 𝓛 En hs c).post z in let Run : List Val → SProp 𝓤 = λ ws. WpFn 𝓤 H 𝓣.C 𝓣.Λ fn ws Post in
    let toks = raw (alive 𝓛 En.signature z.0.0 z.0.1) in
    let out : Sq 𝓛 (toks ∷ []) (prop (Post vunit)) =
    nothing ! $ feq_i ! (List Val) (vunit ∷ []) (vunit ∷ []) refl $ nothing ! $ nothing ! $ fjoin ! $ nothing ! $ fjoin ! $ move ! (3 ∷ []) $
    by ! (leaves 𝓛 En hs c z vunit tt (tt, (tt, tt)) (tt, (tt, tt))) in
    qed 𝓛 ((toks ⊛ ‵ (owns (types_at En.signature.params z.0.0) z.0.3 z.0.4)) ∷ (raw (requires-null 𝓛 z.0.0 𝓜.mem 𝓡.returns a p behind) ⊛ ‵ (slot_owns p behind)) ∷ []) ∵ split ! $ move ! (1 ∷ []) $ fsplit ! $
    handle_tells (al R Z LZ ghosts) ! a us (λ h eh fits. move ! (1 ∷ []) $ fsplit ! $ feq_l ! (λ ev. drop ! $ move ! (2 ∷ []) $ split ! $ heard ! _ (λ null.
    let runs : (w : Val) → vs ≡ w ∷ [] → ent 𝓤 (Run (h ∷ w ∷ [])) (Run (us ++ (vs ++ []))) = λ w is. subst (λ (ts : List Val). ent 𝓤 (Run (h ∷ w ∷ [])) (Run ts)) (sym (λ i. eh i ++ (is i ++ []))) (id⊢ 𝓤 (Run (h ∷ w ∷ []))) in
    given_back ! p behind null
    -- there is no handle
    (λ e. drop ! $
    suffices ! (Run (h ∷ vnull ∷ [])) (runs vnull (ev ∙ ap (λ (q : Ptr). ptr_val q ∷ []) e)) $
    enter ! 𝓣.C 𝓣.Λ fn (h ∷ vnull ∷ []) Post $ alloc_all ! (λ l. pass_all ! refl (fits, ((tt, record { fits = lit< tt }), tt)) $
    sets ! (bin ! (get ! refl) (lit ! tt) (tests_null null_ptr (lit< tt))) refl (tt, tt) $
    first ! $ branches ! (get ! refl)
    (λ t. sets ! (of_opd ! (unit_lit !)) refl (tt, tt) $ returns_within ! Post refl (look_at ! 0 refl) $ free_all ! refl $ out)
    (λ t. absurd t)))
    -- there is one
    (λ b o x e may.
    let w : Val = two_words (vptr b o) h in let typed = raw_box_good R Z LZ ghosts b o h fits in
    let k = triple_of 𝓛 callee.signature (callee.spec 𝓛 𝓜.mem 𝓡.returns) in
    let y : k.Ghost = ((tt, tt, tt, (record { at = block_ptr b o; alloc = a; value = x }, tt), (w ∷ [], tt)), tt) in
    suffices ! (Run (h ∷ vptr b o ∷ [])) (runs (vptr b o) (ev ∙ ap (λ (q : Ptr). ptr_val q ∷ []) e)) $
    enter ! 𝓣.C 𝓣.Λ fn (h ∷ vptr b o ∷ []) Post $ alloc_all ! (λ l. pass_all ! refl (fits, ((tt, tt), tt)) $
    sets ! (bin ! (get ! refl) (lit ! tt) (tests_null (block_ptr b o) may)) refl (tt, tt) $
    first ! $ branches ! (get ! refl) (λ t. absurd t)
    (λ t. skips ! $ exec ! 𝓣.C 𝓣.Λ (env fn.locals l) code.Mir.t-3 (at_ret (env fn.locals l) Post) $
    sets ! (agg ! (and_then ! (get ! refl) (and_then ! (get ! refl) (no_more !)))) refl typed $
    raw_box_in R Z LZ ghosts ! b o h a x $
    -- [the box; the tokens], and then what `release` is handed
    nothing ! $ move ! (1 ∷ 0 ∷ []) $ fjoin ! $ nothing ! $ join ! $ nothing ! $ move ! (1 ∷ 0 ∷ []) $ join ! $ use1 𝓛 (raw (k.pre y)) (id⊢ 𝓤 _) $
    calls_at ! (fm 𝓛 𝓜 𝓡) k (met 𝓤 𝓛 𝓜 𝓡 (code.calls-handles::calling::release 𝓡.env wired)) y (and_then ! (get ! refl) (no_more !)) (λ u.
    use1 𝓛 (later (some (λ (r : Unit {0}). (‵ ftrue ⊛ ‵ (unit.own_val r (u ∷ []))) ⊛ some (λ (ws : Lasts callee.ended tt y.0.3). ‵ (lasts callee.ended tt y.0.3 ws) ⊛ ‵ ftrue)))) (id⊢ 𝓤 (k.post y u)) $
    await ! tt $ pick ! (λ r. split ! $ move ! (1 ∷ []) $ pick ! (λ _. split ! $ drop ! $ drop ! $ split ! $ drop ! $ feq_l ! (λ is_unit.
    lands_as ! (ap only is_unit) refl (tt, tt) $ sets ! (of_opd ! (unit_lit !)) refl (tt, tt) $
    returns ! (look_at ! 0 refl) $ free_all ! refl $ out)))))))))))
