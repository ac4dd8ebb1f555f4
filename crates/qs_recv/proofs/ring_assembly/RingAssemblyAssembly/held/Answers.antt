use Rattle.std.proofs.Common.{arith, rules}
use Rattle.qs_recv.specs.Ring.{byte_of}
use Rattle.qs_recv.proofs.RingApart.{held_fits, held_idle, held_small, least_held, room_held}
use Rattle.qs_recv.proofs.ring_assembly.RingAssemblyAssembly.held.Goals as goal

pub overflow_mul-result : goal.overflow_mul-result
overflow_mul-result c =
    let s = c.self.inside in
    let small = held_small (byte_of s.ring.0 s.near s.apart.pages) s.ring.0 s.apart.pages s.received s.read_count s.near s.end s.stored s.window s.discarding c.self.invariant.0 c.self.invariant.1 c.count.ensures.ordered in
    omega (arith, small, c.count.ensures.count)

pub overflow_add-result : goal.overflow_add-result
overflow_add-result c =
    let s = c.self.inside in
    let small = held_small (byte_of s.ring.0 s.near s.apart.pages) s.ring.0 s.apart.pages s.received s.read_count s.near s.end s.stored s.window s.discarding c.self.invariant.0 c.self.invariant.1 c.count.ensures.ordered in
    omega (arith, small, c.count.ensures.count, c.len.ensures)

pub returns-clause-room : goal.returns-clause-room
returns-clause-room c = rw (← c.self.view_is) (search (rules, room_held, c.self.invariant.1, c.len.ensures, c.count.ensures.count))

pub returns-clause-bound : goal.returns-clause-bound
returns-clause-bound c = rw (← c.self.view_is) (search (rules, held_fits, c.self.invariant.1, c.count.ensures.ordered, c.len.ensures, c.count.ensures.count))

pub returns-clause-idle : goal.returns-clause-idle
returns-clause-idle c = rw (← c.self.view_is) (search (rules, held_idle, c.self.invariant.0, c.self.invariant.1, c.self.invariant.0.counted, c.len.ensures, c.count.ensures.count))

pub returns-clause-least : goal.returns-clause-least
returns-clause-least c = rw (← c.self.view_is) (search (rules, least_held, c.self.invariant.1, c.len.ensures, c.count.ensures.count))
