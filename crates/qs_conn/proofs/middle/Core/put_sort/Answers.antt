use Rattle.std.proofs.Common.{subst, sym, take, ◌+◌}
use Rattle.qs_conn.specs.Middle.{end_of}
use Rattle.qs_conn.specs.Filling.{slot_place, sort_place, Stage}
use Rattle.qs_conn.proofs.Places.{first_is, own_at_sort, own_marked, own_past_is, own_place_is}
use Rattle.qs_conn.proofs.middle.Core.put_sort.Goals as goal

pub returns-in-Own-clause-stage : goal.returns-in-Own-clause-stage
returns-in-Own-clause-stage c = λ wish room old e at stage.
    let slot = c.in-Own.slot in
    let own = own_at_sort c.args.sort slot c.in-Own.is c.requires.at in
    let before = subst (λ p. Stage wish room old (take c.args.packet.len c.args.out.now) (end_of c.args.self.now e) c.args.packet.is_full p) (own_place_is slot own) (rw c.in-Own.is at stage) in
    rw (c.in-Own.is, ← own_past_is slot own) (c.put_slot.ensures.stage wish room old e at before)

pub put_slot-requires-clause-marked : goal.put_slot-requires-clause-marked
put_slot-requires-clause-marked c = own_marked c.args.self.now.due c.in-Own.slot (own_at_sort c.args.sort c.in-Own.slot c.in-Own.is c.requires.at)

pub returns-in-Streams-clause-stage : goal.returns-in-Streams-clause-stage
returns-in-Streams-clause-stage c = λ wish room old e at stage.
    let before = subst (λ p. Stage wish room old (take c.args.packet.len c.args.out.now) (end_of c.args.self.now e) c.args.packet.is_full p) (sym (first_is c.in-Streams.kind)) (rw c.in-Streams.is at stage) in
    rw c.in-Streams.is (c.put_marked.ensures.stage wish room old e at before)
