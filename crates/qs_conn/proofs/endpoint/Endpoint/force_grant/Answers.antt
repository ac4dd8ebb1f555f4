use Rattle.qs_conn.proofs.Cores.{kept_grant}
use Rattle.qs_conn.proofs.endpoint.Endpoint.force_grant.Goals as goal

pub invariant_of-self : goal.invariant_of-self
invariant_of-self c = kept_grant c.self.inside.core _ _ _ _ _ c.self.invariant _ _ _ _ c.requires c.set_grant.ensures
