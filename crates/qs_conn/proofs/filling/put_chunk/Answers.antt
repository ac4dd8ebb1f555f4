use Rattle.std.proofs.Common.{rules}
use Rattle.qs_conn.proofs.Flows.{stream_some, frame_size}
use Rattle.qs_conn.proofs.filling.put_chunk.Goals as goal

pub put_chunk-sent-requires-clause-spare : goal.put_chunk-sent-requires-clause-spare
put_chunk-sent-requires-clause-spare c = search (rules, stream_some)

pub returns-in-Some-clause-end : goal.returns-in-Some-clause-end
returns-in-Some-clause-end c = search (rules, frame_size)

pub returns-in-Some-clause-spare : goal.returns-in-Some-clause-spare
returns-in-Some-clause-spare c = search (rules, stream_some)

pub returns-in-None-clause-outbox : goal.returns-in-None-clause-outbox
returns-in-None-clause-outbox c = search (rules, frame_size)

pub returns-in-None-clause-text : goal.returns-in-None-clause-text
returns-in-None-clause-text c = search (rules, frame_size)

pub returns-in-None-clause-end : goal.returns-in-None-clause-end
returns-in-None-clause-end c = search (rules, frame_size)

pub returns-in-None-clause-rest : goal.returns-in-None-clause-rest
returns-in-None-clause-rest c = search (rules, frame_size)

pub returns-in-None-clause-held : goal.returns-in-None-clause-held
returns-in-None-clause-held c = λ off s has. search (rules, frame_size)
