use Rattle.std.proofs.Common.{ap, ◌∙◌, refl, sym}
use Rattle.std.proofs.iter.Serving.{serving}
use Rattle.qs_send.specs.Lane.{reset_refusal, answer_of, reset_lane, after_reset}
use Rattle.qs_machine.specs.Outgoing.{lanes_of}
use Rattle.qs_machine.specs.Sums.{tables_of}
use Rattle.qs_machine.proofs.LostSent.{sent_reset}
use Rattle.qs_conn.proofs.LaneEdits.{by_edit, over_reset, over_reset_refused}
use Rattle.qs_conn.proofs.Outboxes.{half_there, lane_now, half_step, same_step, box_reset, reset_err, on_error}
use Rattle.qs_conn.proofs.outbox.Outbox.reset.Goals as goal

pub invariant_of-self : goal.invariant_of-self
invariant_of-self c =
    let there = half_there _ c.args.self.now (tables_of c.self.inside.types) c.args.stream c.self.view_is refl c.requires.open in
    let (is, answer) = by_edit _ _ _ _ _ (λ s. after_reset s c.args.code) (λ s. answer_of (reset_refusal s.lane)) c.edit.ensures.edited (λ s left. grind (serving, left)) (λ o. (over_reset _ o c.args.code, ap answer_of (sym (over_reset_refused _ o)))) in
    (box_reset _ _ _ _ _ _ _ _ _ c.self.invariant.0 c.args.stream c.args.code there is, sent_reset (tables_of c.self.inside.types) _ _ c.self.invariant.1 c.args.stream c.args.code is, c.edit.ensures.len)

pub returns : goal.returns
returns c =
    let there = half_there _ c.args.self.now (tables_of c.self.inside.types) c.args.stream c.self.view_is refl c.requires.open in
    let (is, answer) = by_edit _ _ _ _ _ (λ s. after_reset s c.args.code) (λ s. answer_of (reset_refusal s.lane)) c.edit.ensures.edited (λ s left. grind (serving, left)) (λ o. (over_reset _ o c.args.code, ap answer_of (sym (over_reset_refused _ o)))) in record {
      answer = answer ∙ ap (λ l. answer_of (reset_refusal l)) (sym (lane_now _ c.args.self.now (tables_of c.self.inside.types) c.args.stream c.self.view_is refl));
      after = half_step _ c.args.self.now (tables_of c.self.inside.types) _ c.args.stream (λ s. after_reset s c.args.code) (λ l. reset_lane l c.args.code) c.self.view_is refl (λ s. refl) is;
      err = on_error c.edit.result _ _ (λ same. same_step _ c.args.self.now _ c.self.view_is (ap lanes_of same)) (reset_err (tables_of c.self.inside.types) _ c.args.stream c.args.code c.edit.result there is answer);
    }
