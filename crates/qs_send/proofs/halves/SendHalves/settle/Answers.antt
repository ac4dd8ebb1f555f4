use Rattle.std.proofs.Common.{arith, rules}
use Rattle.qs_send.proofs.Slots.{none_of, in_slots, place_there, full_read, same_over}
use Rattle.qs_send.proofs.halves.SendHalves.settle.Goals as goal

pub index-requires : goal.index-requires
index-requires c = let t = in_slots _ _ _ _ c.args.index c.self.view_is c.requires in omega (arith, t)

pub index-half-requires : goal.index-half-requires
index-half-requires c = search (rules, in_slots, place_there, none_of)

pub overflow_mul-index : goal.overflow_mul-index
overflow_mul-index c = search (rules, in_slots)

pub overflow_add-index : goal.overflow_add-index
overflow_add-index c = search (rules, in_slots)

pub put_over-requires-clause-there : goal.put_over-requires-clause-there
put_over-requires-clause-there c = in_slots _ _ _ _ c.args.index c.self.view_is c.requires

pub returns : goal.returns
returns c = rw (← c.self.view_is) (search (rules, in_slots, full_read, none_of, same_over, c.requires, c.self.invariant.1, c.index.ensures, c.if-is_over.ensures, c.index-half.ensures, c.in-Some.ensures.0.is, c.in-Some.ensures.1, c.put_over.ensures.put))
