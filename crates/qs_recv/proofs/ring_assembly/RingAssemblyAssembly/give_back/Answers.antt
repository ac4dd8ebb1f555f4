use Rattle.std.proofs.Common.{ap, arith, length, rules}
use Rattle.qs_recv.specs.Ring.{byte_of}
use Rattle.qs_recv.proofs.RingApart.{none_held, emptied_ring, emptied_sized}
use Rattle.qs_recv.proofs.RingTurned.{came_none}
use Rattle.qs_recv.proofs.ring_assembly.RingAssemblyAssembly.give_back.Goals as goal

pub invariant_of-self : goal.invariant_of-self
invariant_of-self c =
    let s = c.self.inside in
    let pages = s.apart.pages in
    let f = byte_of s.ring.0 s.near pages in
    let empty = ap length c.none.ensures in
    let sized = emptied_sized f s.ring.0 c.none.result.0 pages s.received s.read_count s.near s.end s.stored s.window s.discarding c.self.invariant.0 c.self.invariant.1 c.if-self-eq0.true c.none.ensures in (
      emptied_ring s.received f (byte_of c.none.result.0 s.near pages) s.window s.read_count s.stored s.discarding c.self.invariant.0 c.if-self-eq0.true,
      sized,
      came_none s.received s.read_count s.near c.none.result s.discarding (λ on. let reaches = (sized.apart on).reaches in omega (arith, reaches, empty)),
    )

pub returns-then-self-eq0-clause-gone : goal.returns-then-self-eq0-clause-gone
returns-then-self-eq0-clause-gone c = λ _. search (rules, none_held, c.self.invariant.0, c.self.invariant.1, c.if-self-eq0.true, c.none.ensures)
