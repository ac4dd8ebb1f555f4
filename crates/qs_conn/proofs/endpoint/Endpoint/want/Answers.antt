use Rattle.qs_conn.proofs.Cores.{kept_wanted}
use Rattle.qs_conn.proofs.endpoint.Endpoint.want.Goals as goal

pub invariant_of-self : goal.invariant_of-self
invariant_of-self c = kept_wanted _ _ _ _ _ _ c.self.invariant c.set.new.self
