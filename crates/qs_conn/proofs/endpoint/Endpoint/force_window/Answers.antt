use Rattle.qs_conn.proofs.Cores.{kept_window}
use Rattle.qs_conn.proofs.endpoint.Endpoint.force_window.Goals as goal

pub invariant_of-self : goal.invariant_of-self
invariant_of-self c = kept_window c.self.inside.core _ _ _ _ _ c.self.invariant _ _ _ c.requires c.tally-taken.ensures.taken c.set_conn_window.ensures
