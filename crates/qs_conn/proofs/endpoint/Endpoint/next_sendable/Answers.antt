use Rattle.std.proofs.Common.{refl}
use Rattle.qs_conn.proofs.Hearing.{sendable_least}
use Rattle.qs_conn.proofs.endpoint.Endpoint.next_sendable.Goals as goal

pub returns : goal.returns
returns c =
    sendable_least _ c.args.self.now c.self.inside.core.outbox c.is_some.result c.value.result c.args.from c.next_sendable.result c.self.view_is refl c.is_some.ensures c.if-is_some.false c.value.ensures.same c.next_sendable.ensures
