use Rattle.std.proofs.Common.{arith, rules}
use Rattle.qs_send.proofs.Slots.{none_of, some_of, in_slots, place_there, full_read, is_over_at}
use Rattle.qs_send.proofs.halves.SendHalves.full.Goals as goal

pub index-requires : goal.index-requires
index-requires c = let t = in_slots _ _ _ _ c.args.index c.self.view_is c.requires in omega (arith, t)

pub returns-then-is_over-clause-over : goal.returns-then-is_over-clause-over
returns-then-is_over-clause-over c = rw (← c.self.view_is) (search (rules, in_slots, some_of, is_over_at))

pub index-requires-2 : goal.index-requires-2
index-requires-2 c = search (rules, in_slots, place_there, none_of)

pub returns-clause-found : goal.returns-clause-found
returns-clause-found c = rw (← c.self.view_is) (search (rules, in_slots, full_read, none_of))
