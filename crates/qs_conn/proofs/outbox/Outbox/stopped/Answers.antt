use Rattle.std.proofs.Common.{refl}
use Rattle.std.proofs.iter.Serving.{serving}
use Rattle.qs_send.specs.Lane.{stop_taken, after_stop}
use Rattle.qs_machine.specs.Sums.{tables_of}
use Rattle.qs_machine.proofs.LostSent.{sent_stop}
use Rattle.qs_conn.proofs.LaneEdits.{by_edit, over_stop}
use Rattle.qs_conn.proofs.Outboxes.{half_there, half_step, box_stopped, stop_lane}
use Rattle.qs_conn.proofs.outbox.Outbox.stopped.Goals as goal

pub invariant_of-self : goal.invariant_of-self
invariant_of-self c =
    let there = half_there _ c.args.self.now (tables_of c.self.inside.types) c.args.stream c.self.view_is refl c.requires.open in
    let is = (by_edit _ _ _ _ _ (λ s. after_stop c.args.owner_answers s c.args.code) (λ s. tt) c.edit.ensures.edited (λ s left. (grind (serving, left), refl)) (λ o. (over_stop _ o c.args.owner_answers c.args.code, refl))).0 in
    (box_stopped _ _ _ _ _ _ _ _ _ c.self.invariant.0 c.args.owner_answers c.args.stream c.args.code there is, sent_stop (tables_of c.self.inside.types) _ _ c.self.invariant.1 c.args.owner_answers c.args.stream c.args.code is, c.edit.ensures.len)

pub returns : goal.returns
returns c =
    half_step _ c.args.self.now (tables_of c.self.inside.types) _ c.args.stream (λ s. after_stop c.args.owner_answers s c.args.code) (λ l. stop_taken c.args.owner_answers l c.args.code) c.self.view_is refl (λ s. stop_lane c.args.owner_answers s c.args.code)
    (by_edit _ _ _ _ _ (λ s. after_stop c.args.owner_answers s c.args.code) (λ s. tt) c.edit.ensures.edited (λ s left. (grind (serving, left), refl)) (λ o. (over_stop _ o c.args.owner_answers c.args.code, refl))).0
