use Rattle.std.proofs.Common.{ap, is_some}
use Rattle.std.proofs.iter.Serving.{serving}
use Rattle.qs_conn.proofs.LaneEdits.{sent_still}
use Rattle.qs_conn.proofs.outbox.making.send.Goals as goal

pub edit-moved-requires-clause-stays : goal.edit-moved-requires-clause-stays
edit-moved-requires-clause-stays c = λ law r s left. sent_still _ s c.args.chunk law c.requires.due (grind (serving, left))

pub has-requires-clause-open : goal.has-requires-clause-open
has-requires-clause-open c = ap is_some c.edit-moved.ensures.edited.there
