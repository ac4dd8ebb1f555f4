use Rattle.std.proofs.Common.{subst, sym, false}
use Rattle.qs_conn.specs.Middle.{end_of}
use Rattle.qs_conn.specs.Filling.{slot_place, slot_past}
use Rattle.qs_conn.specs.Sending.{TellsDue}
use Rattle.qs_conn.proofs.MadePackets.{tells_item}
use Rattle.qs_conn.proofs.Places.{first_is, own_marked, own_place_is, own_past_is, own_at_sort}
use Rattle.qs_conn.proofs.middle.Core.has_sort.Goals as goal

pub returns-in-Own : goal.returns-in-Own
returns-in-Own c = λ e before.
    let slot = c.in-Own.slot in
    let there = end_of c.args.self.now e in
    let own = own_at_sort c.args.sort slot c.in-Own.is c.requires.at in
    rw (c.is_some.ensures, c.in-Own.is, ← own_past_is slot own) (tells_item there slot c.due_in.result (c.due_in.ensures.due e) (subst (λ p. TellsDue false there p) (own_place_is slot own) (rw c.in-Own.is at before)))

pub due_in-requires-clause-marked : goal.due_in-requires-clause-marked
due_in-requires-clause-marked c = own_marked c.args.self.now.due c.in-Own.slot (own_at_sort c.args.sort c.in-Own.slot c.in-Own.is c.requires.at)

pub returns-in-Streams : goal.returns-in-Streams
returns-in-Streams c = λ e before.
    let kind = c.in-Streams.kind in
    rw c.in-Streams.is (c.has_marked.ensures e (subst (λ p. TellsDue false (end_of c.args.self.now e) p) (sym (first_is kind)) (rw c.in-Streams.is at before)))
