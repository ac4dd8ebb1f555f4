-- `empty` puts the two fields together.
use Rattle.std.proofs.Common.{◌≡◌, List, [], ◌∷◌, ◌++◌, refl, sym, subst}
use mir.Syntax.{Fn}
use mir.Val.{Val, has_ty}
use base.Logic.{SProp, ent, emp, id⊢}
use prog.Wp.{WpFn}
use types.Kit.{‵, raw, ◌⊛◌, ◌$◌, ◌∵◌, !, qed, by, move, keep, split, fsplit3, feq_l, fjoin, suffices, use0}
use types.Run.{no_more, and_then, returns, enter}
use types.ByLocal.{alloc_all, pass_all, free_all, look_at, get, sets}
use types.Part.{agg}
use contract.Monad.{fact, fact_i}
use contract.Running.{tables}
use denote.Exit.{yes}
use denote.RattleType.{RattleType, owns}
use denote.Signature.{types_at, plain}
use denote.RawPtr.{ptr_val}
use denote.Builtin.{RawPtr}
use denote.Param.{layout}
use denote.Steps.{nothing}
use denote.Triple.Entry.{alive}
use denote.Triple.Walked.{Stays, stay_dropped, walk_of, Goes-dropped}
use Rattle.std.specs.Prelude.{Option, None}
use Rattle.std.proofs.alloc.Calls.{handle_tells}
use Rattle.std.proofs.cell.Inside.{Good}
use Rattle.qs_machine.specs.Heard.{Hearing}
use Rattle.std.specs.contracts.alloc.Global as heap
use Rattle.std.proofs.alloc.Global.TheLaws as heap_laws
use Rattle.std.specs.contracts.impls.GlobalAllocator.TheImpl.{ghosts}
use Rattle.std.proofs.raw_atomic.Walks.{proved_at, leaves}
use Rattle.qs_c.specs.contracts.listener.Listener as listener
use Rattle.qs_c.specs.contracts.listener_cell.ListenerCell as cell
use Rattle.qs_c.proofs.Words.{both, both_tt, al, ptr_good}
use Rattle.qs_c.proofs.HeardWords.{none_in}
use Rattle.qs_c.specs.contracts.listener_cell.ListenerCell.empty.{ended, clauses}
use Rattle.qs_c.specs.contracts.listener_cell.ListenerCell.empty.Key.{name as #self}
use Rattle.qs_c.proofs.listener_cell.ListenerCell.empty.Statement.{statement}
use Rattle.qs_c.proofs.listener_cell.ListenerCell.empty.Code as code

pub empty_spec : {M : Type 1} → statement M
empty_spec 𝓤 𝓛 𝓜 𝓡 wired =
    let H = 𝓛.H in let 𝓣 = tables 𝓤 H 𝓜 𝓡 𝓡.env in let En = ended in let c = clauses 𝓛 𝓜.mem 𝓡.returns in
    let fn : Fn = code.function in let R : RattleType = listener.the_row in let Z : RattleType = heap.the_row in let LZ = heap_laws.the_row_laws in
    let hs : Stays En.signature.params En.kept = (stay_dropped (plain (λ _. RawPtr)) yes, (stay_dropped (plain (λ _. Z)) yes, tt)) in
    proved_at 𝓛 En hs c 𝓜 𝓡 (Goes-dropped 𝓛 0 (plain (λ _. RawPtr)) yes (λ κs x f. refl), (Goes-dropped 𝓛 0 (plain (λ _. Z)) yes (λ κs x f. refl), tt)) #self fn (code.unfolded 𝓤 H 𝓜 𝓡 wired) (λ z are.
    let κs = z.0.0 in let qs = z.0.1 in let Post : Val → SProp 𝓤 = (walk_of 𝓛 En hs c).post z in let Run : List Val → SProp 𝓤 = λ ws. WpFn 𝓤 H 𝓣.C 𝓣.Λ fn ws Post in
    let p = z.0.3.0 in let a = z.0.3.1.0 in let Nothing : Option Hearing = None in let Told : Type 0 = Nothing ≡ Nothing in let pv : Val = ptr_val p in
    qed 𝓛 ((raw (alive 𝓛 En.signature κs qs) ⊛ ‵ (owns (types_at En.signature.params κs) z.0.3 z.0.4)) ∷ raw ((c κs z.0.3).requires z.1) ∷ []) ∵ split ! $ move ! (1 ∷ []) $ fsplit3 ! $ feq_l ! (λ ep.
    handle_tells (al R Z LZ ghosts) ! a z.0.4.1.0 (λ h eh fits. let w : Val = both pv h in
    let good : Good (layout cell.the_row) w = (both_tt (has_ty (layout RawPtr) pv) (has_ty (layout Z) h) (ptr_good p).0 fits.0, ((ptr_good p).1, (fits.1, tt))) in keep ! (0 ∷ 2 ∷ []) $
    suffices ! (Run (pv ∷ h ∷ [])) (subst (λ (us : List Val). ent 𝓤 (Run (pv ∷ h ∷ [])) (Run us)) (sym (λ i. ep i ++ (eh i ++ []))) (id⊢ 𝓤 (Run (pv ∷ h ∷ [])))) $
    enter ! 𝓣.C 𝓣.Λ fn (pv ∷ h ∷ []) Post $ alloc_all ! (λ l. pass_all ! refl (ptr_good p, (fits, tt)) $
    sets ! (agg ! (and_then ! (get ! refl) (and_then ! (get ! refl) (no_more !)))) refl good $
    none_in ! p h a $ use0 𝓛 (raw (fact 𝓤 Told)) (fact_i 𝓤 Told (emp 𝓤) refl) $ nothing ! $ nothing ! $ fjoin ! $ nothing ! $ fjoin ! $
    returns ! (look_at ! 0 refl) $ free_all ! refl $ keep ! (3 ∷ 0 ∷ 2 ∷ 1 ∷ []) $ by ! (leaves 𝓛 En hs c z w (record { at = p; alloc = a; value = None }) (tt, (tt, tt)) (tt, (tt, tt)))))))
