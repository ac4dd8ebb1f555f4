use Rattle.std.proofs.Common.{refl}
use Rattle.qs_conn.proofs.AckRuns.{only_comes}
use Rattle.qs_conn.proofs.Cores.{kept_recounted}
use Rattle.qs_conn.proofs.endpoint.Endpoint.ack_only.Goals as goal

pub returns-clause-ok : goal.returns-clause-ok
returns-clause-ok c =
    rw (c.ack_range-taken.ensures.streams.limits, c.ack_range-taken.ensures.streams.recvs, ← c.self.view_is)
    (only_comes c.args.token c.self.inside.core.outbox c.ack_range-taken.new.self.outbox _ c.ack_range-taken.result refl c.ack_range-taken.ensures.step).0

pub returns-clause-err : goal.returns-clause-err
returns-clause-err c =
    rw (c.ack_range-taken.ensures.streams.limits, c.ack_range-taken.ensures.streams.recvs, ← c.self.view_is)
    (only_comes c.args.token c.self.inside.core.outbox c.ack_range-taken.new.self.outbox _ c.ack_range-taken.result refl c.ack_range-taken.ensures.step).1

pub invariant_of-self : goal.invariant_of-self
invariant_of-self c = kept_recounted _ _ _ _ _ _ c.self.invariant c.ack_range-taken.new.self c.is_same.result c.ack_range-taken.ensures.rest c.ack_range-taken.ensures.streams c.is_same.ensures
