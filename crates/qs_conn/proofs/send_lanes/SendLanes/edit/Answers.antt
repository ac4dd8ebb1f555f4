use Rattle.std.proofs.Common.{◌<◌, length, refl, sym, subst, inl, inr, rules}
use Rattle.qs_send.specs.Lane.{Sending}
use Rattle.qs_send.specs.Halves.{half_at}
use Rattle.qs_send.specs.Sound.{IsLawful}
use Rattle.qs_conn.specs.Tasks.{Stays}
use Rattle.qs_conn.proofs.LaneEdits.{lent_at, set_same}
use Rattle.qs_conn.proofs.Tasks.{kept_of, promised_of, sum_few, sums_counted, all_looked, marked_before, marks_read}
use Rattle.qs_conn.proofs.send_lanes.SendLanes.edit.Goals as goal

pub returns-in_default : goal.returns-in_default
returns-in_default g c = rw (← c.self.view_is) (record { now = half_at c.self.inside.halves c.args.index; left = inr (c.in_default.ensures.over, refl, refl); is = sym (set_same c.self.inside.halves c.args.index) })

pub returns : goal.returns
returns g c = rw (← c.self.view_is) (record { now = c.change-answer.new.arg2; left = inl (record { shown = _; shows = c.in-Some.ensures.found; left = _; met = c.change-answer.ensures; leaves = refl }); is = refl })

pub overflow_add-self : goal.overflow_add-self
overflow_add-self g c = search (rules, sum_few, promised_of)

pub overflow_add-self-2 : goal.overflow_add-self-2
overflow_add-self-2 g c = search (rules, sum_few, kept_of)

pub look-requires : goal.look-requires
look-requires g c =
    let there : c.args.index < length c.self.inside.halves = rw c.self.view_is c.requires.there in
    let stays = rw (← c.self.view_is) at c.requires.stays in
    let kept = stays (subst IsLawful c.in-Some.ensures.found c.learn_lawful.ensures) c.change-answer.result c.change-answer.new.arg2 (record { shown = _; shows = c.in-Some.ensures.found; left = _; met = c.change-answer.ensures; leaves = refl }) in
    marked_before c.args.moves c.self.inside.marks c.args.index (half_at c.self.inside.halves c.args.index) _ (marks_read c.self.inside.halves c.self.inside.marks c.args.index _ c.self.invariant.1 there (lent_at c.self.inside.halves c.args.index _ there refl)) kept

pub invariant_of-self-2 : goal.invariant_of-self-2
invariant_of-self-2 g c =
    let there : c.args.index < length c.self.inside.halves = rw c.self.view_is c.requires.there in
    let stays = rw (← c.self.view_is) at c.requires.stays in
    let kept = stays (subst IsLawful c.in-Some.ensures.found c.learn_lawful.ensures) c.change-answer.result c.change-answer.new.arg2 (record { shown = _; shows = c.in-Some.ensures.found; left = _; met = c.change-answer.ensures; leaves = refl }) in
    all_looked _ _ _ _ _ _ _ c.args.index c.change-answer.new.arg2 there c.look.ensures c.self.invariant
    (sums_counted c.args.moves c.self.inside.halves c.self.inside.promised c.self.inside.kept c.args.index c.measure-was.result.promised c.measure-is.result.promised c.measure-was.result.kept c.measure-is.result.kept c.in-Some.half.now c.change-answer.new.arg2 there (lent_at c.self.inside.halves c.args.index c.in-Some.half.now there c.in-Some.ensures.found)
    (subst (λ (s : Sending). Stays c.args.moves s c.change-answer.new.arg2) (sym c.in-Some.ensures.found) kept) c.measure-was.ensures.promised c.measure-is.ensures.promised c.measure-is.ensures.few_promised c.measure-was.ensures.kept c.measure-is.ensures.kept c.measure-is.ensures.few_kept c.self.invariant.2)
