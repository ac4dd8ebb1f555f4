use Rattle.std.proofs.Common.{◌<◌, length, refl, sym, subst, ◌∙◌, rules}
use Rattle.std.proofs.lemmas.List.{get_or_default}
use Rattle.qs_recv.specs.Lane.{new_lane}
use Rattle.qs_recv.specs.declared.credit.Share.TheVariants.{Half}
use Rattle.qs_conn.proofs.LaneEdits.{edited}
use Rattle.qs_conn.specs.RecvEdits.{IsCalm}
use Rattle.qs_conn.proofs.recv_lanes.RecvLanes.edit.Goals as goal

pub f-answer-requires : goal.f-answer-requires
f-answer-requires g c = search (rules, get_or_default)

pub invariant_of-self : goal.invariant_of-self
invariant_of-self g c =
    let there : c.args.index < length c.self.inside.halves.items = rw c.self.view_is c.requires.there in
    let at = c.index_mut-half.ensures.value ∙ get_or_default c.self.inside.halves.items c.args.index c.index_mut-half.result.now (new_lane 0 Half) there in
    edited c.self.inside.halves.items c.args.index c.index_mut-half.result.now c.f-answer.new.arg2 there c.index_mut-half.ensures.value _ _ _ _ _ _ _ _ c.self.invariant
    c.measure-was.ensures.value c.measure-is.ensures.value c.moved-self-inside.ensures c.measure-was.ensures.small c.measure-was.ensures.paid c.measure-is.ensures.lawful
    (subst (λ l. IsCalm l c.f-answer.new.arg2) (sym at) ((rw (← c.self.view_is) at c.requires.calm) _ _ _ (record { half = _; into = _; shows = (at, refl); left = _; met = c.f-answer.ensures; leaves = (refl, refl) })))
    c.mark_rise.ensures c.look.ensures

pub returns : goal.returns
returns g c =
    let there : c.args.index < length c.self.inside.halves.items = rw c.self.view_is c.requires.there in
    let at = c.index_mut-half.ensures.value ∙ get_or_default c.self.inside.halves.items c.args.index c.index_mut-half.result.now (new_lane 0 Half) there in
    rw (← c.self.view_is) (record { now = c.f-answer.new.arg2; left = record { half = _; into = _; shows = (at, refl); left = _; met = c.f-answer.ensures; leaves = (refl, refl) }; is = refl })
