use Rattle.qs_conn.proofs.Hearing.{acked_there}
use Rattle.qs_conn.proofs.endpoint.Endpoint.was_reset_acked.Goals as goal

pub returns-clause-reset : goal.returns-clause-reset
returns-clause-reset c is = rw (← c.self.view_is) (acked_there _ c.args.stream (c.is_reset_acked.ensures.0 is))
