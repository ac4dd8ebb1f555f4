use Rattle.std.proofs.Common.{refl}
use Rattle.qs_send.specs.Lane.{allow_lane, after_allow}
use Rattle.qs_machine.specs.Sums.{tables_of}
use Rattle.qs_machine.proofs.LostSent.{sent_allow}
use Rattle.qs_conn.proofs.Outboxes.{half_there, half_step, box_allowed}
use Rattle.qs_conn.proofs.outbox.Outbox.allow.Goals as goal

pub invariant_of-self : goal.invariant_of-self
invariant_of-self c =
    let there = half_there _ c.args.self.now (tables_of c.self.inside.types) c.args.stream c.self.view_is refl c.requires.open in
    (box_allowed _ _ _ _ _ _ _ _ _ c.self.invariant.0 c.args.stream c.args.limit there c.set.ensures.after, sent_allow (tables_of c.self.inside.types) _ _ c.self.invariant.1 c.args.stream c.args.limit c.set.ensures.after, c.set.ensures.len)

pub returns : goal.returns
returns c = half_step _ c.args.self.now (tables_of c.self.inside.types) _ c.args.stream (λ s. after_allow s c.args.limit) (λ l. allow_lane l c.args.limit) c.self.view_is refl (λ s. refl) c.set.ensures.after
