use Rattle.std.proofs.Common.{refl}
use Rattle.qs_machine.specs.Credit.{send_ended}
use Rattle.qs_conn.proofs.endpoint.Endpoint.next_sent_untold.Goals as goal

pub returns : goal.returns
returns c = rw (← c.self.view_is) (c.next_sought.ensures send_ended (λ s. refl))
