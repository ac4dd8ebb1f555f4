use Rattle.std.proofs.Common.{arith, sym, ◌∙◌, rules}
use Rattle.qs_send.proofs.Steps.{not_refused, lawful_write, write_nothing}
use Rattle.qs_send.proofs.Around.{freed_open}
use Rattle.qs_send.proofs.half.SendHalf.write.Goals as goal

pub invariant_of-self-2 : goal.invariant_of-self-2
invariant_of-self-2 c =
    let h = c.self.invariant.0 in
    let room = rw (← c.self.view_is) at c.room.ensures in
    let told = rw (← c.self.view_is) at (sym c.refusal.ensures ∙ c.in_default.is) in
    let (open_lane, unfinished) = not_refused _ _ told in
    let most = c.min-most.ensures in
    let len = c.min-len.ensures in
    let taken = c.split_at.ensures.front_len in
    let small = h.order.small in
    let buffered = h.bytes.buffered in
    let widest = h.bytes.widest in
    rw c.in_default-write.ensures.ok
    (lawful_write _ _ open_lane unfinished (omega (arith, taken, len, most, small)) (omega (arith, taken, len, most, room, buffered, widest)) h, omega (arith, c.in_default-write.ensures.room, c.self.invariant.1, taken, len, most, room, buffered, widest), freed_open _ _ _ _ h open_lane unfinished)

pub returns-then-len-eq0-clause-accepted : goal.returns-then-len-eq0-clause-accepted
returns-then-len-eq0-clause-accepted c = search (rules, write_nothing)
