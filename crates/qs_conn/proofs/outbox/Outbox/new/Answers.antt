use Rattle.std.proofs.Common.{refl}
use Rattle.qs_conn.proofs.Outboxes.{box_new}
use Rattle.qs_machine.proofs.LostSent.{sent_none}
use Rattle.qs_conn.proofs.outbox.Outbox.new.Goals as goal

pub invariant_of-result : goal.invariant_of-result
invariant_of-result c = (
  box_new _ _ _ _ _ (rw (c.new.ensures, c.new-2.ensures, c.new-3.ensures, c.new-4.ensures) refl) c.new-5.ensures.pieces c.new-7.ensures.items,
  sent_none _ _ c.new-6.ensures.pieces,
  refl,
)
