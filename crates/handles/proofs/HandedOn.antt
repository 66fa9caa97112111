-- Functions that take a pointer and its allocator out of a struct, and hand on what these own.
use Rattle.std.proofs.Common.{◌≡◌, ℕ, List, [], ◌∷◌, ◌++◌, refl, sym, subst}
use lib.Dec.{T}
use mir.Syntax.{Callee, Fn, Sym, Ty, local, value_local, ty_ptr, ty_struct, tcons, tnil, seq, assign, return, place, field, rv_opd, copy, aggregate}
use mir.Val.{Val, vptr}
use seplogic.Ra.Ura.{Ura}
use base.Logic.{SProp, ent, emp, id⊢}
use base.Fml.{Fml, ftrue, fsep}
use prog.Wp.{Closed, WpFn}
use prog.Model.{Model}
use types.Logic.{Logic, sem}
use types.Kit.{‵, raw, ◌⊛◌, ◌$◌, ◌∵◌, !, qed, by, move, keep, drop, split, fsplit, fjoin, suffices, use0, rewrite}
use types.Run.{stop, fld, of_opd, no_more, and_then, returns, enter}
use types.ByLocal.{alloc_all, pass_all, free_all, look_at, get, get_in, sets}
use types.Part.{agg, sub, whole}
use contract.Monad.{fact, fact_i}
use contract.Running.{Running, MachineTables, tables}
use denote.Exit.{Last, left, yes}
use denote.RattleType.{RattleType, owns}
use denote.RawPtr.{block_ptr}
use denote.Signature.{types_at, plain}
use denote.Steps.{nothing}
use denote.Param.{layout}
use denote.Struct.Owning.{shape}
use denote.Triple.Clauses.{Ended, Clauses, closing}
use denote.Triple.Entry.{alive}
use denote.Triple.Spec.{Meets}
use denote.Triple.Walked.{Stays, stay_dropped, walk_of}
use denote.Param.Mute.{blank}
use Rattle.core.proofs.alloc.Calls.{Goes-blank}
use Rattle.core.proofs.cell.Inside.{Good}
use Rattle.std.proofs.raw_atomic.Walks.{proved_at, leaves}
use Rattle.std_alloc.specs.Box.Ownership.{box_owns}
use Rattle.std.specs.contracts.alloc.Global as heap
use Rattle.std.proofs.alloc.Global.TheLaws as heap_laws
use Rattle.std.specs.contracts.impls.GlobalAllocator.TheImpl.{ghosts}
use Rattle.handles.specs.contracts.raw_box.RawBox as raw_box
use Rattle.handles.specs.contracts.kept.KeptReel as kept
use Rattle.handles.specs.contracts.handle.ReelHandle as handle
use Rattle.handles.proofs.Values.{two_words, RawBox, raw_box_good, raw_box_out, raw_box_in, as_raw_box}

abbrev Z : RattleType
Z = heap.the_row

abbrev pub Boxed : RattleType → RattleType
Boxed R = RawBox R Z heap_laws.the_row_laws ghosts

-- a struct that is a raw box of R but for its name (`boxed` leads there, and `of` back)
pub record Pointing (R : RattleType) : Type 2 where
  pub row : RattleType
  pub name : Sym
  pub boxed : row.Denot → (Boxed R).Denot
  pub of : (Boxed R).Denot → row.Denot
  pub owned : (d : row.Denot) (vs : List Val) → row.own_val d vs ≡ (Boxed R).own_val (boxed d) vs
  pub back : (x : (Boxed R).Denot) → boxed (of x) ≡ x
  pub last : (d : row.Denot) → Last (row.exit yes) d
  pub nothing_left : (d : row.Denot) (w : Last (row.exit yes) d) → T (blank (left (row.exit yes) d w))

-- what it owns: what the box does, and the allocator
abbrev pub parts : {R : RattleType} (P : Pointing R) → P.row.Denot → ℕ → ℕ → Val → Fml
parts {R} P d b o h =
    fsep (box_owns (ghosts.dealloc_token (P.boxed d).alloc) R (block_ptr b o) (P.boxed d).value) (Z.own_val (P.boxed d).alloc (h ∷ []))

-- one parameter, one result, and one plain fact of both
abbrev pub one_to_one : RattleType → RattleType → Ended
one_to_one P Q =
    record { signature = record { lifetimes = 0; outlives = []; params = plain (λ κs. P) ∷ []; result = plain (λ κs. Q) }; kept = (yes, tt) }

abbrev pub saying : {M : Type 1} {𝓤 : Ura M} (𝓛 : Logic 𝓤) (P Q : RattleType) → (P.Denot → Q.Denot → Type 0) → Clauses 𝓤 (one_to_one P Q)
saying {𝓤 = 𝓤} 𝓛 P Q φ κs args = record { ghost = Unit {0}; requires = λ _. sem 𝓛 ftrue; ensures = λ _ result _. fact 𝓤 (φ args.0 result) }

-- the code that lays both into another such struct
abbrev pub moves : Sym → Sym → Fn
moves from to =
    let words : Sym → Ty = λ ν. ty_struct ν (tcons ty_ptr (tcons (layout Z) tnil)) in
    record {
      lifetimes = 0;
      outlives = [];
      ty_params = [];
      givens = 0;
      params = 1;
      locals = local (words to) value_local ∷ local (words from) value_local ∷ local ty_ptr value_local ∷ local (layout Z) value_local ∷ local ty_ptr value_local ∷ [];
      body =
          seq (assign (place 2 []) (rv_opd (copy (place 1 (field 0 ∷ [])))))
          (seq (assign (place 3 []) (rv_opd (copy (place 1 (field 1 ∷ [])))))
          (seq (assign (place 4 []) (rv_opd (copy (place 2 []))))
          (seq (assign (place 0 []) (aggregate (copy (place 4 []) ∷ copy (place 3 []) ∷ []))) return)));
    }

module _ {M : Type 1} (𝓤 : Ura M) (𝓛 : Logic 𝓤) (𝓜 : Model 𝓤 𝓛.H) (𝓡 : Running 𝓤 𝓛.H 𝓜) (R : RattleType) (P : Pointing R) where
  abbrev 𝓣 : MachineTables 𝓤 𝓛.H 𝓜
  𝓣 = tables 𝓤 𝓛.H 𝓜 𝓡 𝓡.env

  pub handed_on : (Q : RattleType) (φ : P.row.Denot → Q.Denot → Type 0) (k : Callee) (fn : Fn) → Closed 𝓤 𝓛.H 𝓣.C 𝓣.Λ k fn
      → ((d : P.row.Denot) (b o : ℕ) (h : Val) → Good (layout Z) h → (Post : Val → SProp 𝓤) → ((q : Q.Denot) (u : Val) → φ d q → ent 𝓤 (sem 𝓛 (Q.own_val q (u ∷ []))) (Post u))
      → ent 𝓤 (sem 𝓛 (parts P d b o h)) (WpFn 𝓤 𝓛.H 𝓣.C 𝓣.Λ fn (two_words (vptr b o) h ∷ []) Post))
      → Meets 𝓛 (one_to_one P.row Q).signature (𝓣.C k) (closing 𝓛 (one_to_one P.row Q) (saying 𝓛 P.row Q φ))
  handed_on Q φ k fn closed walk =
      let En = one_to_one P.row Q in let c = saying 𝓛 P.row Q φ in let hs : Stays En.signature.params En.kept = (stay_dropped (plain (λ _. P.row)) yes, tt) in
      proved_at 𝓛 En hs c 𝓜 𝓡 (Goes-blank 𝓛 0 (plain (λ _. P.row)) yes (λ κs x f. P.nothing_left x f), tt) k fn closed (λ z are.
      let d = z.0.3.0 in let Post : Val → SProp 𝓤 = (walk_of 𝓛 En hs c).post z in let Run : List Val → SProp 𝓤 = λ ws. WpFn 𝓤 𝓛.H 𝓣.C 𝓣.Λ fn ws Post in
      let lands : (q : Q.Denot) (u : Val) → φ d q → ent 𝓤 (sem 𝓛 (Q.own_val q (u ∷ []))) (Post u) = λ q u is.
      qed 𝓛 (‵ (Q.own_val q (u ∷ [])) ∷ []) ∵ nothing ! $ use0 𝓛 (raw (fact 𝓤 (φ d q))) (fact_i 𝓤 (φ d q) (emp 𝓤) is) $ nothing ! $ nothing ! $ fjoin ! $
      keep ! (2 ∷ 0 ∷ 3 ∷ 1 ∷ []) $ by ! (leaves 𝓛 En hs c z u q (P.last d, tt) (tt, tt)) in
      qed 𝓛 ((raw (alive 𝓛 En.signature z.0.0 z.0.1) ⊛ ‵ (owns (types_at En.signature.params z.0.0) z.0.3 z.0.4)) ∷ ‵ ftrue ∷ []) ∵ move ! (1 ∷ []) $ drop ! $ split ! $ move ! (1 ∷ []) $ fsplit ! $ keep ! (0 ∷ []) $
      rewrite ! 0 (λ (F : Fml). ‵ F) (P.owned d z.0.4.0) refl $
      raw_box_out R Z heap_laws.the_row_laws ghosts ! (P.boxed d) z.0.4.0 (λ b o h e ws fits. let w : Val = two_words (vptr b o) h in
      suffices ! (Run (w ∷ [])) (subst (λ (us : List Val). ent 𝓤 (Run (w ∷ [])) (Run us)) (sym (λ i. ws i ++ [])) (id⊢ 𝓤 (Run (w ∷ [])))) $
      fjoin ! $ by ! (walk d b o h fits Post lands)))

  pub repacked : (Q : Pointing R) (k : Callee) → Closed 𝓤 𝓛.H 𝓣.C 𝓣.Λ k (moves P.name Q.name)
      → Meets 𝓛 (one_to_one P.row Q.row).signature (𝓣.C k) (closing 𝓛 (one_to_one P.row Q.row) (saying 𝓛 P.row Q.row (λ d q. (Q.boxed q).value ≡ (P.boxed d).value)))
  repacked Q k closed = handed_on Q.row (λ d q. (Q.boxed q).value ≡ (P.boxed d).value) k (moves P.name Q.name) closed (λ d b o h fits Post lands.
      let w : Val = two_words (vptr b o) h in let typed = raw_box_good R Z heap_laws.the_row_laws ghosts b o h fits in let v = P.boxed d in
      let x : (Boxed R).Denot = record { at = block_ptr b o; alloc = v.alloc; value = v.value } in
      qed 𝓛 (‵ (parts P d b o h) ∷ []) ∵ enter ! 𝓣.C 𝓣.Λ (moves P.name Q.name) (w ∷ []) Post $ alloc_all ! (λ l. pass_all ! refl (typed, tt) $
      sets ! (of_opd ! (get_in ! (fld ! refl (stop !)) (sub ! 0 refl (whole !)))) refl (tt, tt) $ sets ! (of_opd ! (get_in ! (fld ! refl (stop !)) (sub ! 1 refl (whole !)))) refl fits $
      sets ! (of_opd ! (get ! refl)) refl (tt, tt) $ sets ! (agg ! (and_then ! (get ! refl) (and_then ! (get ! refl) (no_more !)))) refl typed $
      fsplit ! $ raw_box_in R Z heap_laws.the_row_laws ghosts ! b o h v.alloc v.value $ returns ! (look_at ! 0 refl) $ free_all ! refl $
      rewrite ! 0 (λ (y : (Boxed R).Denot). ‵ ((Boxed R).own_val y (w ∷ []))) (sym (Q.back x)) refl $ rewrite ! 0 (λ (F : Fml). ‵ F) (sym (Q.owned (Q.of x) (w ∷ []))) refl $
      by ! (lands (Q.of x) w (λ i. (Q.back x i).value))))

abbrev pub as_raw : (R : RattleType) → Pointing R
as_raw R =
    record {
      row = Boxed R;
      name = (shape (raw_box.the_type R Z ghosts)).name;
      boxed = λ d. d;
      of = λ x. x;
      owned = λ d vs. refl;
      back = λ x. refl;
      last = λ d. tt;
      nothing_left = λ d w. tt;
    }

abbrev pub as_handle : Pointing kept.the_row
as_handle =
    record {
      row = handle.the_row;
      name = (shape handle.the_type).name;
      boxed = as_raw_box;
      of = λ x. record { at = x.at; alloc = x.alloc; kept = x.value };
      owned = λ d vs. refl;
      back = λ x. refl;
      last = λ d. tt;
      nothing_left = λ d w. tt;
    }
