use Rattle.qs_conn.proofs.Hearing.{ended_next}
use Rattle.qs_conn.proofs.endpoint.Endpoint.next_ended_of.Goals as goal

pub returns-clause-least : goal.returns-clause-least
returns-clause-least c = ended_next c.args.self.now c.args.told.now c.args.stream_type c.args.from _ _ c.ended_marks.ensures _ (rw c.of_type.ensures at c.next_untold.ensures.least)
