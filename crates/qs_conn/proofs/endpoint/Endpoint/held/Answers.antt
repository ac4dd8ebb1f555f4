use Rattle.qs_conn.proofs.Tasks.{is_held}
use Rattle.qs_conn.proofs.endpoint.Endpoint.held.Goals as goal

pub returns : goal.returns
returns c = rw (← c.self.view_is) (is_held _ _ c.self.invariant.rest.core.sound c.held.ensures c.held-2.ensures)
