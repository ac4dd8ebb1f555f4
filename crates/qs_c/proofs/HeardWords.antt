-- The machine values of a cell of what was heard. Assumes `Logic`.
use Rattle.std.proofs.Common.{◌≡◌, ℕ, List, [], ◌∷◌, ◌++◌, refl, subst}
use mathlib.Core.Bool.{true, false≢true}
use seplogic.Ra.Ura.{Ura}
use mir.Raw.{raw as bare}
use mir.Val.{Val, vptr, vstruct, of_list}
use base.Logic.{never, fst∗}
use types.Logic.{Logic, sem}
use types.Kit.{Item, Goal, Seq, Step, step, ‵, ◌$◌, move, drop, fsplit, fjoin, fpick, fpack, feq_i, feq_l}
use denote.RattleType.{Valss}
use denote.Builtin.{RawPtr}
use denote.Memory.{lone}
use denote.RawPtr.{Ptr, block_ptr, null_ptr, ptr_val, in_a_block}
use denote.Steps.{nothing}
use denote.Param.{layout}
use denote.Struct.Struct.{within}
use denote.Struct.Owning.{shape}
use Rattle.std.proofs.alloc.Calls.{handle_tells}
use Rattle.std.proofs.cell.Inside.{Good}
use Rattle.std.specs.Box.Ownership.{box_owns}
use Rattle.std.specs.Prelude.{Option, Some, None, is_some}
use Rattle.qs_machine.specs.Heard.{Hearing}
use Rattle.std.specs.contracts.alloc.Global as heap
use Rattle.std.proofs.alloc.Global.TheLaws as heap_laws
use Rattle.std.specs.contracts.impls.GlobalAllocator.TheImpl.{ghosts}
use Rattle.qs_c.proofs.Words.{both, al}
use Rattle.qs_c.specs.contracts.listener.Listener as listener
use Rattle.qs_c.specs.contracts.listener_cell.ListenerCell as cell

-- a cell that holds a value, by value: what a `Loose` of it is
module _ {M : Type 1} {𝓤 : Ura M} {𝓛 : Logic 𝓤} {K : Type 0} {Γ : List (Item 𝓤)} {G : Goal 𝓤 𝓛.H} where
  pub cell_in : K → (b o : ℕ) (h : Val) (a : heap.the_row.Denot) (x : listener.the_row.Denot)
      → Step K 𝓛 (‵ (cell.the_row.own_val (record { at = block_ptr b o; alloc = a; value = Some x }) (both (vptr b o) h ∷ [])) ∷ Γ) G (‵ (box_owns (ghosts.dealloc_token a) listener.the_row (block_ptr b o) x) ∷ ‵ (heap.the_row.own_val a (h ∷ [])) ∷ Γ) G
  cell_in t b o h a x = step (λ s. let v : Val = both (vptr b o) h in
      nothing t $ move t (2 ∷ 0 ∷ []) $ fjoin t $ feq_i t (List Val) (vptr b o ∷ []) (vptr b o ∷ []) refl $ fjoin t $ feq_i t (List Val) (v ∷ []) (v ∷ []) refl $ fjoin t $
      fpack t (Valss (RawPtr ∷ heap.the_field.row ∷ [])) (within (shape cell.the_type) (block_ptr b o, (heap.the_field.into a, tt)) (v ∷ [])) (vptr b o ∷ [], (h ∷ [], tt)) $ fjoin t $ s)

  pub cell_out : K → (a : heap.the_row.Denot) (p : Ptr) (x : listener.the_row.Denot) (vs : List Val)
      → ((b o : ℕ) (h : Val) → p ≡ block_ptr b o → vs ≡ both (vptr b o) h ∷ [] → Good (layout heap.the_row) h → Seq K 𝓛 (‵ (box_owns (ghosts.dealloc_token a) listener.the_row (block_ptr b o) x) ∷ ‵ (heap.the_row.own_val a (h ∷ [])) ∷ Γ) G)
      → Seq K 𝓛 (‵ (cell.the_row.own_val (record { at = p; alloc = a; value = Some x }) vs) ∷ Γ) G
  cell_out t a p x vs k =
      fsplit t $ fpick t (λ vss. fsplit t $ feq_l t (λ ev. fsplit t $ feq_l t (λ ep. fsplit t $ handle_tells (al listener.the_row heap.the_row heap_laws.the_row_laws ghosts) t a vss.1.0 (λ h ea fits. move t (1 ∷ []) $ drop t $ move t (1 ∷ []) $
      in_a_block t p (λ r. box_owns (ghosts.dealloc_token a) listener.the_row r x) (fst∗ 𝓤 (never 𝓤) (sem 𝓛 (ghosts.dealloc_token a (bare (lone listener.the_row.mir)) null_ptr))) (λ b o e. k b o h e
      (subst (λ (r : Ptr). vs ≡ vstruct (of_list (ptr_val r ∷ h ∷ [])) ∷ []) e
      (subst (λ (ws : List Val). vs ≡ vstruct (of_list (ptr_val p ∷ (ws ++ []))) ∷ []) ea (subst (λ (ps : List Val). vs ≡ vstruct (of_list (ps ++ (vss.1.0 ++ []))) ∷ []) ep ev))) fits)))))

  pub none_in : K → (p : Ptr) (h : Val) (a : heap.the_row.Denot)
      → Step K 𝓛 (‵ (cell.the_row.own_val (record { at = p; alloc = a; value = None }) (both (ptr_val p) h ∷ [])) ∷ Γ) G (‵ (heap.the_row.own_val a (h ∷ [])) ∷ Γ) G
  none_in t p h a = step (λ s. let v : Val = both (ptr_val p) h in
      nothing t $ nothing t $ move t (2 ∷ 0 ∷ []) $ fjoin t $ feq_i t (List Val) (ptr_val p ∷ []) (ptr_val p ∷ []) refl $ fjoin t $ feq_i t (List Val) (v ∷ []) (v ∷ []) refl $ fjoin t $
      fpack t (Valss (RawPtr ∷ heap.the_field.row ∷ [])) (within (shape cell.the_type) (p, (heap.the_field.into a, tt)) (v ∷ [])) (ptr_val p ∷ [], (h ∷ [], tt)) $ fjoin t $ s)

pub some_of : (v : Option Hearing) → is_some v ≡ true → (x : Hearing) × (v ≡ Some x)
some_of (Some x) is = (x, refl)
some_of None is = absurd (false≢true is)
