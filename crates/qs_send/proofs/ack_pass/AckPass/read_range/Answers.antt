use Rattle.std.proofs.Common.{rules}
use Rattle.qs_send.proofs.ack_pass.AckPass.read_range.Goals as goal

pub returns-clause-read : goal.returns-clause-read
returns-clause-read c = rw (← c.self.view_is) (search (rules))
