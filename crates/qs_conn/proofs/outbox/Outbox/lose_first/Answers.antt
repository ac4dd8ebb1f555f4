use Rattle.std.proofs.Common.{refl, arith, rules}
use Rattle.qs_conn.proofs.Flows.{room_stays}
use Rattle.qs_conn.proofs.Outboxes.{idle_none, first_at, tied_at, sent_piece, box_lost, lost_value, lost_added, idle_after}
use Rattle.qs_machine.proofs.LostSent.{sent_lost}
use Rattle.qs_machine.specs.Sums.{tables_of}
use Rattle.qs_conn.proofs.outbox.Outbox.lose_first.Goals as goal

pub piece_lost-requires : goal.piece_lost-requires
piece_lost-requires c = search (rules, sent_piece, tied_at, idle_none, first_at)

pub invariant_of-self-2 : goal.invariant_of-self-2
invariant_of-self-2 c =
    let none = idle_none _ c.args.self.now c.self.inside.records.pieces c.self.inside.pending.items c.self.view_is refl c.requires.idle in
    let first = first_at _ c.args.self.now c.self.inside.records.pieces c.self.inside.pending.items c.args.number c.args.piece c.self.view_is refl c.requires.idle c.requires.first in (
      box_lost _ _ _ _ _ _ _ _ _ _ _ c.args.number c.args.piece c.self.invariant.0 none first c.in_ok-piece_lost.ensures.ok c.drop_first.ensures.pieces (room_stays c.self.inside.next c.self.inside.records.room c.drop_first.new.self.room (let same = c.drop_first.ensures.room in omega (arith, same))),
      sent_lost (tables_of c.self.inside.types) (tables_of c.piece_lost.new.types) c.self.inside.lost.pieces c.make_room.new.self.pieces c.add.new.self.pieces c.make_room.new.self.order c.args.number c.args.piece c.in_ok-piece_lost.ensures.ok c.make_room.ensures.pieces c.add.ensures.pieces
          (sent_piece (tables_of c.self.inside.types) c.self.inside.records.pieces c.args.number c.args.piece
          (tied_at _ _ _ _ _ _ _ _ c.self.invariant.0 none) first)
          c.self.invariant.1,
      c.piece_lost.ensures.len,
    )

pub returns-clause-ok : goal.returns-clause-ok
returns-clause-ok c =
    lost_value c.args.number c.args.piece _ c.args.self.now (tables_of c.self.inside.types) (tables_of c.piece_lost.new.types) c.self.inside.records.pieces c.drop_first.new.self.pieces c.self.inside.pending.items c.self.view_is refl refl
    (idle_none _ c.args.self.now c.self.inside.records.pieces c.self.inside.pending.items c.self.view_is refl c.requires.idle)
    c.in_ok-piece_lost.ensures.ok c.drop_first.ensures.pieces _
    (lost_added c.args.number c.args.piece c.self.inside.lost.pieces c.make_room.new.self.pieces c.add.new.self.pieces c.self.inside.lost.order c.make_room.new.self.order c.add.new.self.order c.make_room.ensures.pieces c.make_room.ensures.order c.add.ensures.pieces c.add.ensures.order)

pub returns-clause-idle : goal.returns-clause-idle
returns-clause-idle c =
    let none = idle_none _ c.args.self.now c.self.inside.records.pieces c.self.inside.pending.items c.self.view_is refl c.requires.idle in
    let held = box_lost _ _ _ _ _ _ _ _ _ _ _ c.args.number c.args.piece c.self.invariant.0 none (first_at _ c.args.self.now c.self.inside.records.pieces c.self.inside.pending.items c.args.number c.args.piece c.self.view_is refl c.requires.idle c.requires.first) c.in_ok-piece_lost.ensures.ok c.drop_first.ensures.pieces (room_stays c.self.inside.next c.self.inside.records.room c.drop_first.new.self.room (let same = c.drop_first.ensures.room in omega (arith, same))) in
    idle_after _ _ _ held.below none
