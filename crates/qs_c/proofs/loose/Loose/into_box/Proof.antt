-- `into_box` hands what is owned to `from_raw`.
use Rattle.std.proofs.Common.{◌≡◌, List, [], ◌∷◌, ◌++◌, refl, sym, ap, subst}
use mir.Syntax.{Args, Fn, a_type, dcons, dnil}
use mir.MapTy.{inst_fn}
use mir.Val.{Val, vptr, has_ty, WT}
use lib.Dec.{T}
use base.Logic.{id⊢}
use base.Fml.{ftrue, fsep, flft}
use prog.Wp.{WpFn}
use types.Kit.{Item, regoal, prop, ‵, raw, ◌⊛◌, some, later, at_ret, ◌$◌, ◌∵◌, !, qed, move, drop, split, split3, join, fsplit, fjoin, pick, suffices, use1, await, rewrite, feq_i, done}
use types.Run.{stop, fld, of_opd, no_more, and_then, first, blocks, exec, returns, enter}
use types.ByLocal.{alloc_all, pass_all, free_all, look_at, get, get_in, sets, lands_last, env}
use types.Part.{sub, whole}
use contract.Monad.{fact}
use contract.BorrowLft.{◌⊑◌}
use contract.Running.{tables}
use denote.Exit.{no}
use denote.RattleType.{RattleType}
use denote.Signature.{plain}
use denote.RawPtr.{block_ptr}
use denote.Steps.{nothing, only, heard}
use denote.Param.{param, bounded}
use denote.Triple.Clauses.{Lasts, lasts}
use denote.Triple.Spec.{triple_of}
use denote.Triple.Call.{calls_at_last}
use denote.Triple.Table.{framed}
use denote.Triple.Walked.{Stays, stay_dropped, walk_of, ends_at, says}
use Rattle.std.proofs.alloc.Calls.{Goes-blank}
use Rattle.std.proofs.VecSteps.Shapes.{after}
use Rattle.std.proofs.BoxSteps.Form as box
use Rattle.std.proofs.BoxSteps.Steps.{box_out, box_in}
use Rattle.std.proofs.raw_atomic.Walks.{proved_at}
use Rattle.std.specs.contracts.boxed.Box.from_raw as callee
use Rattle.std.proofs.boxed.Box.from_raw.Met.{met}
use Rattle.qs_c.specs.contracts.loose.Loose.{the_row}
use Rattle.qs_c.specs.contracts.loose.Loose.into_box.{ended, clauses}
use Rattle.qs_c.specs.contracts.loose.Loose.into_box.Key.{name as key}
use Rattle.qs_c.proofs.loose.Loose.into_box.Statement.{statement}
use Rattle.qs_c.proofs.loose.Loose.into_box.Code as code

pub into_box_spec : {M : Type 1} → statement M
into_box_spec 𝓤 𝓛 𝓜 𝓡 wired X A L LA g d dx dd allocator glue glued =
    let E : box.Bx = record { row = X; laws = L; al = record { row = A; laws = LA; g = g; d = d; drops = dd } } in
    let passed : Args = bounded (a_type ∷ a_type ∷ []) (X, (A, tt)) (dcons d (dcons dx (dcons dd dnil))) in
    let f : Fn = inst_fn passed code.function in
    let En = ended X A g d dx dd in
    let c = clauses X A g d dx dd 𝓛 𝓜.mem 𝓡.returns in
    let 𝓣 = tables 𝓤 𝓛.H 𝓜 𝓡 𝓡.env in
    let Row : RattleType = the_row (param 0 X) (param 1 A) g in
    let stays : Stays En.signature.params En.kept = (stay_dropped (plain (λ _. Row)) no, tt) in
    let B : RattleType = box.B E in
    proved_at 𝓛 En stays c 𝓜 𝓡 (Goes-blank 𝓛 2 (plain (λ _. Row)) no (λ κs x w. tt), tt) (key passed) f (code.unfolded 𝓤 𝓛.H 𝓜 𝓡 wired (X, (A, tt)) d dx dd) (λ z are.
    let κs = z.0.0 in let qs = z.0.1 in let a = z.0.3.0.alloc in let x = z.0.3.0.value in
    let whole_box : B.Denot = record { ptr = z.0.3.0.at; alloc = a; value = x } in
    let Post = (walk_of 𝓛 En stays c).post z in
    let alive : Item 𝓤 = ‵ (flft κs.0 qs.0) ⊛ ‵ (flft κs.1.0 qs.1.0) ⊛ ‵ ftrue in
    let bounds : Item 𝓤 = raw (fact 𝓤 (κs.0 ⊑ X.lives)) ⊛ raw (fact 𝓤 (κs.1.0 ⊑ A.lives)) ⊛ ‵ ftrue in
    qed 𝓛 ((alive ⊛ ‵ (fsep (B.own_val whole_box z.0.4.0) ftrue)) ∷ bounds ∷ []) ∵ split ! $ move ! (1 ∷ []) $ fsplit ! $ box_out E ! whole_box z.0.4.0 (λ b o h e spelled fits. fjoin ! $
    let w : Val = box.word E h b o in
    let typed = box.box_typed E h b o fits in
    let Callee = triple_of 𝓛 (callee.signature X A g d dd) (callee.spec X A g d dd 𝓛 𝓜.mem 𝓡.returns) in
    let y : Callee.Ghost = ((κs, qs, tt, (a, (block_ptr b o, tt)), (h ∷ [], (vptr b o ∷ [], tt))), x) in
    regoal ! (λ (us : List Val). prop (WpFn 𝓤 𝓛.H 𝓣.C 𝓣.Λ f us Post)) (λ i. spelled i ++ []) refl $
    enter ! 𝓣.C 𝓣.Λ f (w ∷ []) Post $ alloc_all ! (λ l. pass_all ! refl (typed, tt) $
    sets ! (of_opd ! (get_in ! (fld ! refl (stop !)) (sub ! 0 refl (whole !)))) refl (tt, tt) $
    sets ! (of_opd ! (get_in ! (fld ! refl (stop !)) (sub ! 1 refl (whole !)))) refl fits $
    first ! $ blocks ! $ sets ! (of_opd ! (get ! refl)) refl fits $
    -- [what the box owned; the handle; nothing; the tokens; the bounds]
    move ! (4 ∷ []) $ split3 ! $ move ! (2 ∷ []) $ drop ! $ move ! (1 ∷ 2 ∷ []) $ join ! $ move ! (1 ∷ 0 ∷ []) $ join ! $
    move ! (2 ∷ []) $ feq_i ! (List Val) (vptr b o ∷ []) (vptr b o ∷ []) refl $ fjoin ! $ move ! (2 ∷ 0 ∷ []) $ fjoin ! $ move ! (2 ∷ 0 ∷ []) $ join ! $ join ! $
    use1 𝓛 (raw (Callee.pre y)) (id⊢ 𝓤 _) $
    calls_at_last ! (framed 𝓤 𝓛.H 𝓜 𝓣) Callee (met 𝓤 𝓛 𝓜 𝓡 (code.calls-std_alloc::boxed::Box::from_raw 𝓡.env wired) X A L LA g d dd allocator glued) y
    (and_then ! (get ! refl) (and_then ! (get ! refl) (no_more !))) (λ u.
    use1 𝓛 (later (some (λ (r : B.Denot). (alive ⊛ ‵ (B.own_val r (u ∷ []))) ⊛ some (λ (ls : Lasts (callee.ended X A g d dd) κs y.0.3). ‵ (lasts (callee.ended X A g d dd) κs y.0.3 ls) ⊛ (raw (fact 𝓤 (r.value ≡ x)) ⊛ raw (fact 𝓤 (r.alloc ≡ a))))))) (id⊢ 𝓤 _) $
    await ! tt $ pick ! (λ r. split ! $ move ! (1 ∷ []) $ pick ! (λ _. split3 ! $ drop ! $ heard ! (r.value ≡ x) (λ same. drop ! $ split ! $ move ! (1 ∷ []) $
    box_out E ! r (u ∷ []) (λ b' o' h' e' spelled' fits'. box_in E ! r b' o' r.value e' refl $ rewrite ! 0 (λ (us : List Val). ‵ (B.own_val r us)) (sym spelled') refl $
    let good : T (has_ty (box.box_ty E) u) × WT u = subst (λ (v : Val). T (has_ty (box.box_ty E) v) × WT v) (sym (ap only spelled')) (box.box_typed E h' b' o' fits') in
    lands_last ! refl good $ exec ! 𝓣.C 𝓣.Λ (env f.locals l) (after 3 f.body) (at_ret (env f.locals l) Post) $ sets ! (of_opd ! (get ! refl)) refl good $
    returns ! (look_at ! 0 refl) $ free_all ! refl $ suffices ! _ (ends_at 𝓛 En stays c z u r ((tt, (tt, tt)), tt) (tt, tt)) $ says ! same $
    nothing ! $ nothing ! $ fjoin ! $ join ! $ move ! (1 ∷ 0 ∷ []) $ join ! $ done !))))))))
