use Rattle.std.proofs.Common.{◌∙◌, rules}
use Rattle.std.proofs.lemmas.List.{length-append}
use Rattle.qs_conn.proofs.Outboxes.{half_there}
use Rattle.qs_conn.proofs.Flows.{same_half}
use Rattle.qs_conn.proofs.outbox.Outbox.bytes.Goals as goal

pub half_of-requires-clause-open : goal.half_of-requires-clause-open
half_of-requires-clause-open c = search (rules, half_there)

pub bytes-requires : goal.bytes-requires
bytes-requires c = search (rules, same_half)

pub returns-clause-bytes : goal.returns-clause-bytes
returns-clause-bytes c = search (rules, same_half)

pub returns-clause-len : goal.returns-clause-len
returns-clause-len c = length-append c.bytes.result.0.now c.bytes.result.1.now ∙ c.bytes.ensures.len
