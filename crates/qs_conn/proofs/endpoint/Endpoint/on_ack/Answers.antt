use Rattle.std.proofs.Common.{refl}
use Rattle.qs_wire.specs.Varint.{numbers_of}
use Rattle.qs_conn.proofs.AckRuns.{ack_comes, told_ranges}
use Rattle.qs_conn.proofs.Cores.{kept_recounted}
use Rattle.qs_conn.proofs.endpoint.Endpoint.on_ack.Goals as goal

pub returns-clause-ok : goal.returns-clause-ok
returns-clause-ok g c =
    rw (c.ack-taken.ensures.streams.limits, c.ack-taken.ensures.streams.recvs, ← c.self.view_is)
    (ack_comes c.args.largest (numbers_of c.args.ranges.now) c.self.inside.core.outbox c.ack-taken.new.self.outbox _ c.ack-taken.result refl c.requires.small c.requires.above c.ack-taken.ensures.step).0

pub returns-clause-err : goal.returns-clause-err
returns-clause-err g c =
    rw (c.ack-taken.ensures.streams.limits, c.ack-taken.ensures.streams.recvs, ← c.self.view_is)
    (ack_comes c.args.largest (numbers_of c.args.ranges.now) c.self.inside.core.outbox c.ack-taken.new.self.outbox _ c.ack-taken.result refl c.requires.small c.requires.above c.ack-taken.ensures.step).1

pub invariant_of-self : goal.invariant_of-self
invariant_of-self g c = kept_recounted _ _ _ _ _ _ c.self.invariant c.ack-taken.new.self c.is_same.result c.ack-taken.ensures.rest c.ack-taken.ensures.streams c.is_same.ensures

pub returns-clause-told : goal.returns-clause-told
returns-clause-told g c =
    rw (← c.self.view_is)
    (told_ranges _ c.args.largest (numbers_of c.args.ranges.now) c.self.inside.core.outbox c.ack-taken.new.self.outbox _ _ c.requires.small c.requires.above c.ack-taken.ensures.told)
