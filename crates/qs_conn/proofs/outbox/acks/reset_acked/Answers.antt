use Rattle.std.proofs.Common.{rules}
use Rattle.std.proofs.lemmas.Bool.{both_ways}
use Rattle.qs_conn.proofs.Outboxes.{not_sent_again}
use Rattle.qs_conn.proofs.outbox.acks.reset_acked.Goals as goal

pub returns-else-matches-clause-after : goal.returns-else-matches-clause-after
returns-else-matches-clause-after c = search (rules, both_ways, not_sent_again)
