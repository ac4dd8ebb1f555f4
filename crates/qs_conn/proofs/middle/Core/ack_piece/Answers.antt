use Rattle.std.proofs.Common.{sym, ◌∙◌}
use Rattle.qs_conn.proofs.MadePackets.{may_recount}
use Rattle.qs_conn.proofs.Cores.{piece_recounted, rest_acked, rest_acked_by}
use Rattle.qs_conn.proofs.middle.Core.ack_piece.Goals as goal

pub returns-clause-rest : goal.returns-clause-rest
returns-clause-rest c =
    let self = c.args.self.now in
    let half = sym c.half_of.ensures ∙ c.in-Some.is in
    rest_acked self c.requires.rest c.args.packet.late c.args.packet.number c.args.piece c.ack_kept-2.new.self c.recount.new.self c.requires.first c.in_ok-ack_kept-2.ensures.ok
    (piece_recounted self.limits.role self.recvs c.args.packet.late c.args.packet.number c.in-Some.stream c.args.piece self.outbox c.ack_kept-2.new.self self.ended c.recount.new.self c.is_over-was.result c.is_over-is.result
    half c.in_ok-ack_kept-2.ensures.ok c.requires.rest.core.counts.counted c.is_over-was.ensures.value c.is_over-is.ensures.value (c.recount.ensures (may_recount _ _ _ _ _ _ c.requires.rest.core.counts.counted c.is_over-was.ensures.value c.is_over-was.ensures.few)))
    c.ack_kept-2.ensures.idle

pub returns-in_default-clause-rest : goal.returns-in_default-clause-rest
returns-in_default-clause-rest c = rest_acked_by c.args.self.now c.requires.rest c.args.packet.late c.args.packet.number c.args.piece c.ack_kept.new.self c.requires.first (sym c.half_of.ensures ∙ c.in_default.is) c.in_ok-ack_kept.ensures.ok c.ack_kept.ensures.idle
