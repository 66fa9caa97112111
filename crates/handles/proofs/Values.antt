-- The machine values of a `RawBox`, a `ReelHandle` and a `ReelSlot`, taken apart and put together.
use Rattle.std.proofs.Common.{◌≡◌, ℕ, List, [], ◌∷◌, ◌++◌, refl, subst}
use mathlib.Core.Bool.{true, ◌&&◌}
use lib.Dec.{T}
use seplogic.Ra.Ura.{Ura}
use mir.Syntax.{impl, tnil, dnil}
use mir.Raw.{raw as bare}
use mir.Val.{Val, vptr, vstruct, vcons, vnil, of_list, has_ty, WT}
use base.Logic.{never, fst∗}
use types.Logic.{Logic, sem}
use types.Kit.{Item, Goal, Seq, Step, step, ‵, ◌$◌, move, drop, fsplit, fjoin, fpick, fpack, rewrite, feq_i, feq_l, Soaks}
use denote.RattleType.{RattleType, Valss}
use denote.Builtin.{RawPtr}
use denote.Memory.{lone, part_at, cell_at, mem}
use denote.RawPtr.{Ptr, block_ptr, null_ptr, ptr_val, in_a_block}
use denote.Steps.{nothing, opens}
use denote.Param.{layout}
use denote.Param.Laws.{Laws}
use denote.Struct.Struct.{within}
use denote.Struct.Owning.{shape}
use Rattle.core.specs.declared.alloc.Allocator.{Ghosts}
use Rattle.core.proofs.alloc.Calls.{Al, handle_tells}
use Rattle.core.proofs.cell.Inside.{Good}
use Rattle.std_alloc.specs.Box.Ownership.{box_owns}
use Rattle.std_alloc.proofs.ResultValues.{and_tt}
use Rattle.handles.specs.contracts.raw_box.RawBox as raw_box
use Rattle.handles.specs.contracts.kept.KeptReel as kept
use Rattle.handles.specs.contracts.handle.ReelHandle as handle
use Rattle.handles.specs.contracts.slot.ReelSlot as slot
use Rattle.core.specs.declared.option.Option.TheVariants.{Some}
use Rattle.std.specs.declared.alloc.Global.{Global}
use Rattle.std.specs.contracts.alloc.Global as heap
use Rattle.std.proofs.alloc.Global.TheLaws as heap_laws
use Rattle.std.specs.contracts.impls.GlobalAllocator.TheImpl.{ghosts}
use base.Fraction.{full_share}
use base.Fml.{Fml, Lft, Share, GName, fsep, flft, fobs, fauth, fbor, fobor}
use types.SemTy.{Body as Borrowed}

abbrev pub two_words : Val → Val → Val
two_words v w = vstruct (vcons v (vcons w vnil))

module _ (R Z : RattleType) (L : Laws Z) (g : Ghosts Z.Denot) where
  abbrev pub RawBox : RattleType
  RawBox = raw_box.the_row R Z g

  abbrev pub al : Al
  al = record { row = Z; laws = L; g = g; d = impl [] tnil dnil; drops = impl [] tnil dnil }

  pub raw_box_good : (b o : ℕ) (h : Val) → Good (layout Z) h → T (has_ty (layout Z) h && true) × WT (two_words (vptr b o) h)
  raw_box_good b o h fits = (and_tt (has_ty (layout Z) h) fits.0, (tt, (fits.1, tt)))

  module _ {M : Type 1} {𝓤 : Ura M} {𝓛 : Logic 𝓤} {K : Type 0} {Γ : List (Item 𝓤)} {G : Goal 𝓤 𝓛.H} where
    pub raw_box_out : K → (d : RawBox.Denot) (vs : List Val)
        → ((b o : ℕ) (h : Val) → d.at ≡ block_ptr b o → vs ≡ two_words (vptr b o) h ∷ [] → Good (layout Z) h → Seq K 𝓛 (‵ (box_owns (g.dealloc_token d.alloc) R (block_ptr b o) d.value) ∷ ‵ (Z.own_val d.alloc (h ∷ [])) ∷ Γ) G)
        → Seq K 𝓛 (‵ (RawBox.own_val d vs) ∷ Γ) G
    raw_box_out t d vs k =
        fsplit t $ fpick t (λ vss. fsplit t $ feq_l t (λ ev. fsplit t $ feq_l t (λ ep. fsplit t $ handle_tells al t d.alloc vss.1.0 (λ h ea fits. move t (1 ∷ []) $ drop t $ move t (1 ∷ []) $
        in_a_block t d.at (λ p. box_owns (g.dealloc_token d.alloc) R p d.value) (fst∗ 𝓤 (never 𝓤) (sem 𝓛 (g.dealloc_token d.alloc (bare (lone R.mir)) null_ptr))) (λ b o e. k b o h e
        (subst (λ (p : Ptr). vs ≡ vstruct (of_list (ptr_val p ∷ h ∷ [])) ∷ []) e
        (subst (λ (ws : List Val). vs ≡ vstruct (of_list (ptr_val d.at ∷ (ws ++ []))) ∷ []) ea (subst (λ (ps : List Val). vs ≡ vstruct (of_list (ps ++ (vss.1.0 ++ []))) ∷ []) ep ev))) fits)))))

    pub raw_box_in : K → (b o : ℕ) (h : Val) (a : Z.Denot) (x : R.Denot)
        → Step K 𝓛 (‵ (RawBox.own_val (record { at = block_ptr b o; alloc = a; value = x }) (two_words (vptr b o) h ∷ [])) ∷ Γ) G (‵ (box_owns (g.dealloc_token a) R (block_ptr b o) x) ∷ ‵ (Z.own_val a (h ∷ [])) ∷ Γ) G
    raw_box_in t b o h a x = step (λ s. let v : Val = two_words (vptr b o) h in
        nothing t $ move t (2 ∷ 0 ∷ []) $ fjoin t $ feq_i t (List Val) (vptr b o ∷ []) (vptr b o ∷ []) refl $ fjoin t $ feq_i t (List Val) (v ∷ []) (v ∷ []) refl $ fjoin t $
        fpack t (Valss (RawPtr ∷ Z ∷ [])) (within (shape (raw_box.the_type R Z g)) (block_ptr b o, (a, tt)) (v ∷ [])) (vptr b o ∷ [], (h ∷ [], tt)) $ fjoin t $ s)

-- the allocator, and what lies behind a handle
abbrev Z : RattleType
Z = heap.the_row

abbrev R : RattleType
R = kept.the_row

-- a handle as what it is but for its name
abbrev pub as_raw_box : handle.the_row.Denot → (RawBox R Z heap_laws.the_row_laws ghosts).Denot
as_raw_box d = record { at = d.at; alloc = d.alloc; value = d.kept }

abbrev pub one_word : Val → Val
one_word v = vstruct (vcons v vnil)

module _ {M : Type 1} {𝓤 : Ura M} {𝓛 : Logic 𝓤} {K : Type 0} {Γ : List (Item 𝓤)} {G : Goal 𝓤 𝓛.H} where
  pub slot_in : K → (b o : ℕ) (x : handle.the_row.Denot)
      → Step K 𝓛 (‵ (slot.the_row.own_val (record { at = block_ptr b o; handle = Some x }) (one_word (vptr b o) ∷ [])) ∷ Γ) G (‵ (box_owns (ghosts.dealloc_token x.alloc) handle.the_row (block_ptr b o) x) ∷ Γ) G
  slot_in t b o x = step (λ s. let v : Val = one_word (vptr b o) in
      nothing t $ feq_i t (List Val) (vptr b o ∷ []) (vptr b o ∷ []) refl $ fjoin t $ feq_i t (List Val) (v ∷ []) (v ∷ []) refl $ fjoin t $
      fpack t (Valss (RawPtr ∷ [])) (within (shape slot.the_type) (block_ptr b o, tt) (v ∷ [])) (vptr b o ∷ [], tt) $ fjoin t $ s)

abbrev pub token : Global → ℕ → ℕ → Fml
token a b o = ghosts.dealloc_token a (bare (lone R.mir)) (block_ptr b o)

module _ {M : Type 1} {𝓤 : Ura M} {𝓛 : Logic 𝓤} {K : Type 0} {Γ : List (Item 𝓤)} {G : Goal 𝓤 𝓛.H} where
  -- a handle behind a `&mut`: [the reel; the right to free its block, with the allocator; the handle's words; the open borrow; ..]
  pub handle_opens : K → Soaks G → {κ : Lft} {q : Share} {γ : GName} (d : handle.the_row.Denot) (rb ro : ℕ)
      → ((b o : ℕ) (v : Val) → d.at ≡ block_ptr b o → Seq K 𝓛 (‵ (part_at R full_share d.kept b o) ∷ ‵ (fsep (token d.alloc b o) (Z.own_val d.alloc (v ∷ []))) ∷ ‵ (cell_at full_share handle.the_row.mir (two_words (vptr b o) v ∷ []) rb ro)
      ∷ ‵ (fobor κ q (Borrowed (mem handle.the_row) rb ro γ)) ∷ ‵ (fobs γ (handle.the_row.coded.code d)) ∷ ‵ (fauth γ (handle.the_row.coded.code d)) ∷ Γ) G)
      → Seq K 𝓛 (‵ (fobs γ (handle.the_row.coded.code d)) ∷ ‵ (fbor κ (Borrowed (mem handle.the_row) rb ro γ)) ∷ ‵ (flft κ q) ∷ Γ) G
  handle_opens t z d rb ro k =
      opens t z handle.the_row {h = d} rb ro (λ vs. move t (1 ∷ []) $ raw_box_out R Z heap_laws.the_row_laws ghosts t (as_raw_box d) vs (λ b o v e ws fits. fsplit t $ move t (1 ∷ 2 ∷ []) $ fjoin t $ move t (1 ∷ []) $
      rewrite t 2 (λ (us : List Val). ‵ (cell_at full_share handle.the_row.mir us rb ro)) ws refl $ k b o v e))
