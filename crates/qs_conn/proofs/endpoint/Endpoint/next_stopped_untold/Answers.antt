use Rattle.std.proofs.Common.{refl, is_some}
use Rattle.qs_conn.proofs.Hearing.{stopped_there, stopped_back}
use Rattle.qs_conn.proofs.Marked.{least_as}
use Rattle.qs_conn.proofs.endpoint.Endpoint.next_stopped_untold.Goals as goal

pub returns : goal.returns
returns c = rw (← c.self.view_is) (least_as _ _ 0 c.next_sought.result (λ n p. (stopped_there _ n p.0, p.1)) (λ n p. (stopped_back _ n p.0, p.1)) (c.next_sought.ensures (λ l. is_some l.stopped) (λ s. refl)))
