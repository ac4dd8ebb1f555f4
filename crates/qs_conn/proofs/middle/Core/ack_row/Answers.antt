use Rattle.std.proofs.Common.{sym, subst}
use Rattle.qs_send.specs.Lane.{acked_lane}
use Rattle.qs_machine.specs.Outgoing.{Outgoing}
use Rattle.qs_conn.specs.Middle.{IsAtRest}
use Rattle.qs_conn.proofs.MadePackets.{may_recount, send_recounted}
use Rattle.qs_conn.proofs.AckRuns.{rest_rowed}
use Rattle.qs_conn.proofs.middle.Core.ack_row.Goals as goal

pub returns-clause-rest : goal.returns-clause-rest
returns-clause-rest c =
    let self = c.args.self.now in
    let n = c.args.row.now.stream in
    let counted = c.requires.rest.core.counts.counted in
    rest_rowed n c.args.number c.args.row.now.first self c.recount.new.self c.ack_row.new.self c.requires.rest c.in_ok-ack_row.ensures.ok
    (send_recounted self.limits.role self.recvs self.outbox.sends c.ack_row.new.self.sends n (λ l. acked_lane l c.args.row.now.chunk) self.ended c.recount.new.self c.is_over-was.result c.is_over-is.result counted c.in_ok-ack_row.ensures.sends c.is_over-was.ensures.value c.is_over-is.ensures.value
    (c.recount.ensures (may_recount _ _ _ _ _ _ counted c.is_over-was.ensures.value c.is_over-was.ensures.few)))

pub returns-in_err-ack_row-clause-rest : goal.returns-in_err-ack_row-clause-rest
returns-in_err-ack_row-clause-rest c = subst (λ (o : Outgoing). IsAtRest (record c.args.self.now { outbox = o })) (sym c.in_err-ack_row.ensures.err) c.requires.rest
