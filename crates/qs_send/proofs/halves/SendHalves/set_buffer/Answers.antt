use Rattle.std.proofs.Common.{refl, rules}
use Rattle.qs_send.specs.Lane.{after_buffer}
use Rattle.qs_send.proofs.Slots.{none_of, in_slots, place_there, changed_full, changed_over}
use Rattle.qs_send.proofs.halves.SendHalves.set_buffer.Goals as goal

pub index_mut-slot-requires : goal.index_mut-slot-requires
index_mut-slot-requires c = search (rules, in_slots)

pub index_mut-requires : goal.index_mut-requires
index_mut-requires c = search (rules, in_slots, place_there, none_of)

pub returns-then-not-is_over : goal.returns-then-not-is_over
returns-then-not-is_over c =
    let t = in_slots _ _ _ _ c.args.index c.self.view_is c.requires in
    rw (← c.self.view_is) (changed_full c.self.inside.stream_type c.self.inside.full.items c.self.inside.slots.items c.args.index c.index_mut-slot.result.now c.self.invariant.1 t c.index_mut-slot.ensures.value c.index_mut.result.now c.set_buffer.new.self (λ h. after_buffer h c.args.size) (none_of _ c.if-not-is_over.ensures) c.index_mut.ensures.value c.set_buffer.ensures)

pub returns : goal.returns
returns c =
    let t = in_slots _ _ _ _ c.args.index c.self.view_is c.requires in
    rw (← c.self.view_is) (changed_over c.self.inside.stream_type c.self.inside.full.items c.self.inside.slots.items c.args.index c.index_mut-slot.result.now c.self.invariant.1 t c.index_mut-slot.ensures.value _ refl (λ h. after_buffer h c.args.size) c.if-not-is_over.ensures (λ id n. rw c.max-slot.ensures refl))
