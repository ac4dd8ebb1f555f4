use Rattle.std.proofs.Common.{refl, arith}
use Rattle.qs_conn.proofs.Flows.{room_stays}
use Rattle.qs_conn.proofs.Outboxes.{idle_none, first_at, first_in, sent_kept, box_acked, box_late, acked_value, late_value, lost_left, idle_after, stop_asks}
use Rattle.qs_machine.proofs.LostSent.{sent_acked, sent_less}
use Rattle.qs_machine.specs.Sums.{tables_of}
use Rattle.qs_conn.proofs.outbox.Outbox.ack_kept.Goals as goal

pub piece_acked-requires : goal.piece_acked-requires
piece_acked-requires c =
    sent_kept c.args.packet.late _ c.args.self.now (tables_of c.self.inside.types) c.self.inside.records.pieces _ c.self.inside.pending.items _ _ _ c.args.packet.number c.args.piece c.self.view_is refl c.requires.idle c.self.invariant.0 c.self.invariant.1 c.requires.first

-- a late one

pub invariant_of-self-then-packet : goal.invariant_of-self-then-packet
invariant_of-self-then-packet c = (
  box_late _ _ _ _ _ _ _ _ _ c.args.piece c.self.invariant.0 c.in_ok-piece_acked.ensures.halves
      (c.self.invariant.1 c.args.piece (first_in c.self.inside.lost.pieces c.args.packet.number c.args.piece (rw (← c.self.view_is, c.if-packet.true) at c.requires.first))),
  sent_less (tables_of c.piece_acked.new.types) c.self.inside.lost.pieces c.drop_first.new.self.pieces c.args.packet.number c.drop_first.ensures.pieces
      (sent_acked (tables_of c.self.inside.types) (tables_of c.piece_acked.new.types) c.self.inside.lost.pieces c.self.invariant.1 c.args.piece c.in_ok-piece_acked.ensures.halves),
  c.piece_acked.ensures.len,
)

pub returns-then-packet-clause-ok : goal.returns-then-packet-clause-ok
returns-then-packet-clause-ok c =
    rw c.if-packet.true
    (late_value c.args.packet.number c.args.piece _ c.args.self.now (tables_of c.self.inside.types) (tables_of c.piece_acked.new.types) c.piece_acked.new.told _ c.self.view_is refl c.in_ok-piece_acked.ensures.halves c.in_ok-piece_acked.ensures.items
    (lost_left c.args.packet.number c.self.inside.lost.pieces c.drop_first.new.self.pieces c.self.inside.lost.order c.drop_first.new.self.order c.drop_first.ensures.pieces c.drop_first.ensures.order))

pub returns-then-packet-clause-idle : goal.returns-then-packet-clause-idle
returns-then-packet-clause-idle c = rw (← c.self.view_is) at c.requires.idle

-- an outstanding one

pub invariant_of-self-2 : goal.invariant_of-self-2
invariant_of-self-2 c =
    let none = idle_none _ c.args.self.now c.self.inside.records.pieces c.self.inside.pending.items c.self.view_is refl c.requires.idle in
    let first = first_at _ c.args.self.now c.self.inside.records.pieces c.self.inside.pending.items c.args.packet.number c.args.piece c.self.view_is refl c.requires.idle (rw c.if-packet.false at c.requires.first) in (
      box_acked _ _ _ _ _ _ _ _ _ _ _ c.args.packet.number c.args.piece c.self.invariant.0 none first c.in_ok-piece_acked.ensures.halves c.drop_first-2.ensures.pieces (room_stays c.self.inside.next c.self.inside.records.room c.drop_first-2.new.self.room (let same = c.drop_first-2.ensures.room in omega (arith, same))),
      sent_acked (tables_of c.self.inside.types) (tables_of c.piece_acked.new.types) _ c.self.invariant.1 c.args.piece c.in_ok-piece_acked.ensures.halves,
      c.piece_acked.ensures.len,
    )

pub returns-clause-ok : goal.returns-clause-ok
returns-clause-ok c =
    rw c.if-packet.false
    (acked_value c.args.packet.number c.args.piece _ c.args.self.now (tables_of c.self.inside.types) (tables_of c.piece_acked.new.types) c.self.inside.records.pieces c.drop_first-2.new.self.pieces c.self.inside.pending.items c.piece_acked.new.told c.self.view_is refl refl
    (idle_none _ c.args.self.now c.self.inside.records.pieces c.self.inside.pending.items c.self.view_is refl c.requires.idle)
    c.in_ok-piece_acked.ensures.halves c.drop_first-2.ensures.pieces c.in_ok-piece_acked.ensures.items)

pub returns-clause-idle : goal.returns-clause-idle
returns-clause-idle c =
    let none = idle_none _ c.args.self.now c.self.inside.records.pieces c.self.inside.pending.items c.self.view_is refl c.requires.idle in
    let held = box_acked _ _ _ _ _ _ _ _ _ _ _ c.args.packet.number c.args.piece c.self.invariant.0 none (first_at _ c.args.self.now c.self.inside.records.pieces c.self.inside.pending.items c.args.packet.number c.args.piece c.self.view_is refl c.requires.idle (rw c.if-packet.false at c.requires.first)) c.in_ok-piece_acked.ensures.halves c.drop_first-2.ensures.pieces (room_stays c.self.inside.next c.self.inside.records.room c.drop_first-2.new.self.room (let same = c.drop_first-2.ensures.room in omega (arith, same))) in
    idle_after _ _ _ held.below none

pub returns-in_err-piece_acked-clause-asks : goal.returns-in_err-piece_acked-clause-asks
returns-in_err-piece_acked-clause-asks c = stop_asks c.from_residual.result _ c.args.self.now c.args.piece c.self.view_is c.in_err-piece_acked.ensures.asks
