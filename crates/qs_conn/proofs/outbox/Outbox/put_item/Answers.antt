use Rattle.std.proofs.Common.{refl, arith}
use Rattle.qs_conn.proofs.Flows.{box_item, item_value, told_now}
use Rattle.qs_machine.proofs.LostSent.{sent_told}
use Rattle.qs_machine.specs.Sums.{tables_of}
use Rattle.qs_conn.proofs.outbox.Outbox.put_item.Goals as goal

pub invariant_of-self : goal.invariant_of-self
invariant_of-self c =
    let room = c.hold.ensures.room in
    let was = c.self.invariant.0.room in (
      box_item _ _ _ _ _ _ _ _ _ _ _ c.args.item c.self.invariant.0 c.note_told.ensures.after (told_now _ c.args.self.now (tables_of c.self.inside.types) c.args.item c.self.view_is refl c.requires.may) (rw (← c.self.view_is) at c.requires.new) c.hold.ensures.items (rw (← c.self.view_is) at c.requires.spare) (omega (arith, room, was)),
      sent_told (tables_of c.self.inside.types) (tables_of c.note_told.new.types) _ c.self.invariant.1 c.args.item c.note_told.ensures.after,
      c.note_told.ensures.len,
    )

pub returns : goal.returns
returns c =
    item_value _ c.args.self.now (tables_of c.self.inside.types) (tables_of c.note_told.new.types) c.self.inside.records.pieces c.self.inside.pending.items c.hold.new.pending.items _ c.args.item c.self.view_is refl refl c.self.invariant.0.below refl c.note_told.ensures.after c.hold.ensures.items
