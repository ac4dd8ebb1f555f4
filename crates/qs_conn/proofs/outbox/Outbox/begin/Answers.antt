use Rattle.std.proofs.Common.{rules}
use Rattle.qs_conn.proofs.Flows.{box_begun, has_room}
use Rattle.qs_conn.proofs.outbox.Outbox.begin.Goals as goal

pub invariant_of-self-in_err-prepare : goal.invariant_of-self-in_err-prepare
invariant_of-self-in_err-prepare c = search (rules, box_begun, has_room)

pub invariant_of-self-2 : goal.invariant_of-self-2
invariant_of-self-2 c = search (rules, box_begun, has_room)
