use Rattle.std.proofs.Common.{refl, arith}
use Rattle.qs_machine.specs.Sums.{tables_of}
use Rattle.qs_machine.proofs.LostSent.{sent_acked}
use Rattle.qs_send.specs.declared.piece.Piece.TheVariants.{Data}
use Rattle.qs_conn.proofs.Flows.{room_stays}
use Rattle.qs_conn.proofs.Outboxes.{idle_none, idle_after, stop_asks, chunk_may, row_sent, row_asks, row_half_there as half_there, half_sent, box_rowed, row_acks, row_lanes}
use Rattle.qs_conn.proofs.outbox.Outbox.ack_row.Goals as goal

pub chunk_acked-requires : goal.chunk_acked-requires
chunk_acked-requires c =
    let n = c.args.row.now.stream in
    let sent = row_sent _ c.args.self.now (tables_of c.self.inside.types) c.self.inside.records.pieces _ c.self.inside.pending.items _ _ _ c.args.row.now.stream c.args.number c.args.row.now.first c.args.row.now.chunk c.self.view_is refl c.requires.idle c.self.invariant.0 c.requires.row in
    record { there = half_there (tables_of c.self.inside.types) n c.args.row.now.chunk sent; sent = half_sent (tables_of c.self.inside.types) n c.args.row.now.chunk sent }

pub returns-in_err-chunk_acked-clause-asks : goal.returns-in_err-chunk_acked-clause-asks
returns-in_err-chunk_acked-clause-asks c =
    row_asks c.from_residual.result c.args.self.now c.args.row.now.stream c.args.number c.args.row.now.first c.args.row.now.chunk c.requires.row
    (stop_asks c.from_residual.result _ c.args.self.now (Data c.args.row.now.stream c.args.row.now.chunk) c.self.view_is
    (chunk_may (tables_of c.self.inside.types) c.self.inside.told c.args.row.now.stream c.args.row.now.chunk
    (row_sent _ c.args.self.now (tables_of c.self.inside.types) c.self.inside.records.pieces _ c.self.inside.pending.items _ _ _ c.args.row.now.stream c.args.number c.args.row.now.first c.args.row.now.chunk c.self.view_is refl c.requires.idle c.self.invariant.0 c.requires.row) c.in_err-chunk_acked.ensures.asks))

pub invariant_of-self-2 : goal.invariant_of-self-2
invariant_of-self-2 c = (
  box_rowed _ c.args.self.now c.args.row.now.stream c.args.number c.args.row.now.first c.args.row.now.chunk _ _ c.self.inside.records.pieces _ _ _ c.self.inside.pending.items _ _ _ c.self.view_is refl c.requires.idle c.self.invariant.0 c.requires.row c.in_ok-chunk_acked.ensures.ok c.drop_row.ensures.pieces
      (room_stays c.self.inside.next c.self.inside.records.room c.drop_row.new.records.room (let same = c.drop_row.ensures.room in omega (arith, same))),
  sent_acked (tables_of c.self.inside.types) (tables_of c.chunk_acked.new.types) _ c.self.invariant.1 (Data c.args.row.now.stream c.args.row.now.chunk) c.in_ok-chunk_acked.ensures.ok,
  c.chunk_acked.ensures.len,
)

pub returns-clause-ok : goal.returns-clause-ok
returns-clause-ok c =
    row_acks c.args.row.now.stream c.args.number c.args.row.now.first c.args.row.now.chunk _ c.args.self.now (tables_of c.self.inside.types) (tables_of c.chunk_acked.new.types) c.self.inside.records.pieces c.drop_row.new.records.pieces c.self.inside.pending.items c.self.view_is refl refl
    (idle_none _ c.args.self.now c.self.inside.records.pieces c.self.inside.pending.items c.self.view_is refl c.requires.idle) c.requires.row c.in_ok-chunk_acked.ensures.ok c.drop_row.ensures.pieces

pub returns-clause-sends : goal.returns-clause-sends
returns-clause-sends c = row_lanes c.args.row.now.stream c.args.row.now.chunk _ c.args.self.now (tables_of c.self.inside.types) (tables_of c.chunk_acked.new.types) c.self.view_is refl c.in_ok-chunk_acked.ensures.ok

pub returns-clause-idle : goal.returns-clause-idle
returns-clause-idle c =
    let none = idle_none _ c.args.self.now c.self.inside.records.pieces c.self.inside.pending.items c.self.view_is refl c.requires.idle in
    let held = box_rowed _ c.args.self.now c.args.row.now.stream c.args.number c.args.row.now.first c.args.row.now.chunk _ _ c.self.inside.records.pieces _ _ _ c.self.inside.pending.items _ _ _ c.self.view_is refl c.requires.idle c.self.invariant.0 c.requires.row c.in_ok-chunk_acked.ensures.ok c.drop_row.ensures.pieces
    (room_stays c.self.inside.next c.self.inside.records.room c.drop_row.new.records.room (let same = c.drop_row.ensures.room in omega (arith, same))) in
    idle_after _ _ _ held.below none
