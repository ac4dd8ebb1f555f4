use Rattle.qs_conn.proofs.Cores.{kept_outbox, rest_buffered}
use Rattle.qs_conn.proofs.endpoint.Endpoint.set_send_buffer.Goals as goal

pub invariant_of-self : goal.invariant_of-self
invariant_of-self c = kept_outbox c.self.inside.core _ _ _ _ _ c.self.invariant _ _ (rest_buffered c.self.inside.core c.self.invariant.rest c.args.stream c.args.size _ c.set_buffer.ensures)
