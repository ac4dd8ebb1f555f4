use Rattle.std.proofs.Common.{ap, ◌∙◌, refl, sym}
use Rattle.std.proofs.iter.Serving.{serving}
use Rattle.qs_send.specs.Lane.{refusal, answer_of, finish_lane, after_finish}
use Rattle.qs_machine.specs.Outgoing.{lanes_of}
use Rattle.qs_machine.specs.Sums.{tables_of}
use Rattle.qs_machine.proofs.LostSent.{sent_finish}
use Rattle.qs_machine.proofs.TableEdits.{on_ok}
use Rattle.qs_conn.proofs.LaneEdits.{by_edit, over_finish, over_refused, finished_still}
use Rattle.qs_conn.proofs.Outboxes.{half_there, lane_now, lane_step, same_step, box_finished, finish_ok, finish_err, on_error}
use Rattle.qs_conn.proofs.outbox.Outbox.finish.Goals as goal

pub edit-requires-clause-stays : goal.edit-requires-clause-stays
edit-requires-clause-stays c = λ law r s left. finished_still _ s law (grind (serving, left))

pub invariant_of-self : goal.invariant_of-self
invariant_of-self c =
    let there = half_there _ c.args.self.now (tables_of c.self.inside.types) c.args.stream c.self.view_is refl c.requires in
    let (is, answer) = by_edit _ _ _ _ _ after_finish (λ s. answer_of (refusal s.lane)) c.edit.ensures.edited (λ s left. grind (serving, left)) (λ o. (over_finish _ o, ap answer_of (sym (over_refused _ o)))) in
    (box_finished _ _ _ _ _ _ _ _ _ c.self.invariant.0 c.args.stream there c.edit.ensures.lawful is, sent_finish (tables_of c.self.inside.types) _ _ c.self.invariant.1 c.args.stream is, c.edit.ensures.len)

pub returns : goal.returns
returns c =
    let there = half_there _ c.args.self.now (tables_of c.self.inside.types) c.args.stream c.self.view_is refl c.requires in
    let (is, answer) = by_edit _ _ _ _ _ after_finish (λ s. answer_of (refusal s.lane)) c.edit.ensures.edited (λ s left. grind (serving, left)) (λ o. (over_finish _ o, ap answer_of (sym (over_refused _ o)))) in record {
      answer = answer ∙ ap (λ l. answer_of (refusal l)) (sym (lane_now _ c.args.self.now (tables_of c.self.inside.types) c.args.stream c.self.view_is refl));
      ok = on_ok c.edit.result _ _ (λ lanes. lane_step _ c.args.self.now c.args.stream finish_lane _ c.self.view_is lanes) (finish_ok (tables_of c.self.inside.types) _ c.args.stream c.edit.result there is answer);
      err = on_error c.edit.result _ _ (λ same. same_step _ c.args.self.now _ c.self.view_is (ap lanes_of same)) (finish_err (tables_of c.self.inside.types) _ c.args.stream c.edit.result there is answer);
    }
