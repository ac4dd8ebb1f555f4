use Rattle.std.proofs.Common.{sym, ◌∙◌, arith, rules}
use Rattle.qs_send.proofs.Slots.{in_slots, place_there, full_read, over_is, over_slot}
use Rattle.qs_send.proofs.halves.SendHalves.at.Goals as goal

pub index-slot-requires : goal.index-slot-requires
index-slot-requires c = let t = in_slots _ _ _ _ c.args.index c.self.view_is c.requires in omega (arith, t)

pub overflow_mul-number : goal.overflow_mul-number
overflow_mul-number c = search (rules, in_slots)

pub overflow_add-number : goal.overflow_add-number
overflow_add-number c = search (rules, in_slots)

pub of_over-requires-clause-number : goal.of_over-requires-clause-number
of_over-requires-clause-number c = search (rules, in_slots)

pub of_over-requires-clause-slot : goal.of_over-requires-clause-slot
of_over-requires-clause-slot c =
    let t = in_slots _ _ _ _ c.args.index c.self.view_is c.requires in
    over_slot c.self.inside.stream_type c.self.inside.full.items c.self.inside.slots.items c.args.index c.index-slot.result.now c.self.invariant.1 t c.index-slot.ensures c.in-Some.written (sym c.get.ensures.value ∙ c.in-Some.is)

pub index-requires : goal.index-requires
index-requires c = search (rules, in_slots, place_there)

pub returns-in-Some-clause-half : goal.returns-in-Some-clause-half
returns-in-Some-clause-half c = rw (← c.self.view_is) (search (rules, in_slots, over_is))

pub returns-in-None-clause-half : goal.returns-in-None-clause-half
returns-in-None-clause-half c = rw (← c.self.view_is) (search (rules, in_slots, full_read))
