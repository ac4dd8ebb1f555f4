-- `lend` reads the pointer through the borrow, and lends what lies there; the cell follows it.
use Rattle.std.proofs.Common.{◌≡◌, ℕ, List, [], ◌∷◌, refl, sym}
use seplogic.Ra.Ura.{Ura}
use base.Fraction.{full_share}
use mir.Syntax.{Fn, named}
use mir.Raw.{raw as bare}
use mir.Val.{Val, vptr}
use base.Logic.{SProp, ent, sep}
use base.Fml.{Lft, GName, Share, Fml, ftrue, fsep, flft}
use prog.Wp.{Env}
use types.Logic.{Logic, sem}
use types.Kit.{‵, raw, ◌⊛◌, some, later, await, pick, at_ret, ◌$◌, ◌∵◌, !, qed, by, move, keep, drop, use1, split, join, group, rewrite, fsplit, fsplit3, fjoin, fpack, suffices, frame, done}
use types.Part.{whole, sub, look_in}
use types.Run.{stop, fld, load, of_opd, addr, first, blocks, exec, returns, enter}
use types.ByLocal.{alloc_all, pass_all, free_all, look_at, get, through, sets, sets_last, env}
use contract.Running.{tables}
use denote.Exit.{no}
use denote.RattleType.{RattleType, owns}
use denote.Follow.{follows, Part, lends_Part}
use denote.Memory.{cell_at, part_at, part_of, mem, lone}
use denote.RawPtr.{Ptr, block_ptr}
use denote.Ref.{MutRef, mut_vals, mut_Tells}
use denote.Signature.{types_at, plain, mut_ref_to}
use denote.Steps.{nothing, heard, opens}
use denote.Triple.Walked.{says, Stays, stay_dropped, walk_of, ends_at, Goes-spent_ref}
use Rattle.std.specs.Prelude.{Option, Some, is_some, true}
use Rattle.std.specs.contracts.alloc.Global as heap
use Rattle.std.specs.contracts.impls.GlobalAllocator.TheImpl.{ghosts}
use Rattle.std.proofs.VecSteps.Shapes.{after}
use Rattle.std.proofs.raw_atomic.Walks.{proved}
use Rattle.qs_machine.specs.Ends.{End}
use Rattle.qs_c.specs.Lending.{holding}
use Rattle.qs_c.specs.contracts.thing.Thing as thing
use Rattle.qs_c.specs.contracts.cell.Cell as cell
use Rattle.qs_c.proofs.Words.{both, some_of, cell_in, cell_out}
use Rattle.qs_c.specs.contracts.cell.Cell.lend.{ended, clauses}
use Rattle.qs_c.specs.contracts.cell.Cell.lend.Key.{name as #self}
use Rattle.qs_c.proofs.cell.Cell.lend.Statement.{statement}
use Rattle.qs_c.proofs.cell.Cell.lend.Code as code

abbrev C : RattleType
C = cell.the_row

abbrev T : RattleType
T = thing.the_row

-- all of the cell but what it holds
abbrev Rest : (d : C.Denot) (b o : ℕ) (h : Val) (rb ro : ℕ) → Fml
Rest d b o h rb ro = fsep (fsep (ghosts.dealloc_token d.alloc (bare (lone T.mir)) (block_ptr b o)) (heap.the_row.own_val d.alloc (h ∷ []))) (cell_at full_share C.mir (both (vptr b o) h ∷ []) rb ro)

back : {M : Type 1} {𝓤 : Ura M} (𝓛 : Logic 𝓤) (d : C.Denot) (b o : ℕ) (h : Val) (rb ro : ℕ) → d.at ≡ block_ptr b o → (w : End)
    → ent 𝓤 (sep 𝓤 (sem 𝓛 ((mem T).own_at w b o)) (sem 𝓛 (Rest d b o h rb ro))) (sem 𝓛 ((mem C).own_at (holding d w) rb ro))
unfolding part_of
back 𝓛 d b o h rb ro e w =
    qed 𝓛 (‵ (part_at T full_share w b o) ∷ ‵ (Rest d b o h rb ro) ∷ []) ∵ move ! (1 ∷ []) $ fsplit ! $ fsplit ! $ move ! (3 ∷ 0 ∷ []) $ fjoin ! $
    cell_in ! b o h d.alloc w $ rewrite ! 0 (λ (p : Ptr). ‵ (C.own_val (record { at = p; alloc = d.alloc; value = Some w }) (both (vptr b o) h ∷ []))) (sym e) refl $
    move ! (1 ∷ 0 ∷ []) $ fjoin ! $ fpack ! (List Val) (λ us. fsep (cell_at full_share C.mir us rb ro) (C.own_val (holding d w) us)) (both (vptr b o) h ∷ []) $ done !

abbrev stayed : Stays ended.signature.params ended.kept
stayed = (stay_dropped (mut_ref_to (0 ∷ []) tt (plain (λ _. C))) no, tt)

pub lend_spec : {M : Type 1} → statement M
lend_spec 𝓤 𝓛 𝓜 𝓡 wired =
    let H = 𝓛.H in let 𝓣 = tables 𝓤 H 𝓜 𝓡 𝓡.env in let c = clauses 𝓛 𝓜.mem 𝓡.returns in let W = walk_of 𝓛 ended stayed c in let fn : Fn = code.function in
    proved 𝓛 ended stayed c 𝓜 𝓡 (Goes-spent_ref 𝓛 1 (0 ∷ []) tt (plain (λ _. C)), tt) #self fn (code.unfolded 𝓤 H 𝓜 𝓡 wired)
    (λ κs. (mut_vals, tt)) (λ κs. (mut_Tells (named 0) κs.0 C, tt)) (λ κs qs bounds a g are.
    let κ : Lft = κs.0 in let q : Share = qs.0 in let rb : ℕ = a.0.ref_ptr.0 in let ro : ℕ = a.0.ref_ptr.1 in let γ : GName = a.0.ghost_name in let d : C.Denot = a.0.now in
    let y : W.Ghost = ((κs, qs, bounds, a, (mut_vals a.0, tt)), g) in let Post : Val → SProp 𝓤 = W.post y in
    qed 𝓛 (((‵ (flft κ q) ⊛ ‵ ftrue) ⊛ ‵ (owns (types_at ended.signature.params κs) a (mut_vals a.0, tt))) ∷ raw ((c κs a).requires g) ∷ []) ∵
    move ! (1 ∷ []) $ heard ! (is_some d.value ≡ true) (λ told. let holds : (x : End) × (d.value ≡ Some x) = some_of d.value told in let x : End = holds.0 in
    split ! $ split ! $ move ! (2 ∷ []) $ fsplit ! $ fsplit3 ! $ drop ! $ keep ! (0 ∷ 1 ∷ 3 ∷ []) $
    enter ! 𝓣.C 𝓣.Λ fn (vptr rb ro ∷ []) Post $ alloc_all ! (λ l. pass_all ! refl ((tt, tt), tt) $
    let Ev : Env 𝓤 H = env fn.locals l in
    opens ! tt C {h = d} rb ro (λ vs. move ! (1 ∷ []) $ rewrite ! 0 (λ (v : Option End). ‵ (C.own_val (record { at = d.at; alloc = d.alloc; value = v }) vs)) holds.1 refl $
    cell_out ! d.alloc d.at x vs (λ b o h e ws fits. fsplit ! $ move ! (1 ∷ 2 ∷ []) $ fjoin ! $ move ! (1 ∷ []) $
    rewrite ! 2 (λ (us : List Val). ‵ (cell_at full_share C.mir us rb ro)) ws refl $
    first ! $ blocks ! $
    sets ! (of_opd ! (load ! (through ! refl (fld ! refl (stop !))) (look_in ! 2 (sub ! 0 refl (whole !))))) refl (tt, tt) $
    sets ! (of_opd ! (get ! refl)) refl (tt, tt) $
    sets_last ! (addr ! (through ! refl (stop !))) refl (tt, tt) $
    exec ! 𝓣.C 𝓣.Λ Ev (after 1 fn.body) (at_ret Ev Post) $
    sets ! (of_opd ! (get ! refl)) refl (tt, tt) $
    move ! (1 ∷ 2 ∷ []) $ fjoin ! $ move ! (2 ∷ 3 ∷ 4 ∷ 1 ∷ 0 ∷ []) $ group ! 5 $
    use1 𝓛 (later (some (λ (γ' : GName). raw (Part 𝓛 C T (holding d) (named 0) κ q rb ro b o γ (sem 𝓛 (Rest d b o h rb ro)) (back 𝓛 d b o h rb ro e) x γ'))))
    (lends_Part 𝓛 C T (holding d) (named 0) κ q rb ro b o γ (sem 𝓛 (Rest d b o h rb ro)) (back 𝓛 d b o h rb ro e) (C.coded.code d) (C.coded.code d) x) $ await ! tt $ pick ! (λ γ'.
    returns ! (look_at ! 0 refl) $ free_all ! refl $ keep ! (0 ∷ []) $ by !
    (qed 𝓛 (‵ ((MutRef (named 0) κ T).own_val (record { ref_ptr = (b, o); ghost_name = γ'; now = x }) (vptr b o ∷ [])) ∷ ‵ (flft κ q) ∷ ‵ (follows C T γ γ' (holding d)) ∷ []) ∵
    suffices ! _ (ends_at 𝓛 ended stayed c y (vptr b o) (record { ref_ptr = (b, o); ghost_name = γ'; now = x }) (tt, tt) (tt, tt)) $
    nothing ! $ nothing ! $ fjoin ! $ join ! $ nothing ! $ move ! (2 ∷ 0 ∷ []) $ join ! $ join ! $ frame ! $ says ! (sym holds.1) $ done !)))))))
