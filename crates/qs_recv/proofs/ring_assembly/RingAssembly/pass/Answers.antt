use Rattle.std.proofs.Common.{ℕ, ◌+◌, ◌-◌, ◌≤◌, ◌≡◌, arith, refl, true, false, rules}
use Rattle.std.specs.FinSet as set
use Rattle.qs_ranges.specs.Numbers.{ContainsRange}
use Rattle.qs_recv.specs.Ring.{IsApart, byte_of}
use Rattle.qs_recv.proofs.RingApart.{next_near, ring_moved, sized_taken}
use Rattle.qs_recv.proofs.RingLaws.{next_stored, ring_advanced, ring_read, same_bytes, same_ring}
use Rattle.qs_recv.proofs.RingTurned.{came_moved}
use Rattle.qs_recv.proofs.ring_assembly.RingAssembly.pass.Goals.{After-self, After-shed}
use Rattle.qs_recv.proofs.ring_assembly.RingAssembly.pass.Goals as goal

on : (c : After-self) → c.self.inside.discarding ≡ false
on c = (rw (← c.self.view_is) at c.requires).on

came : (c : After-self) → ContainsRange c.self.inside.received c.self.inside.read_count (c.self.inside.read_count + c.args.count)
came c = (rw (← c.self.view_is) at c.requires).came

apart : (c : After-self) → IsApart c.self.inside.ring.0 c.self.inside.apart.pages c.self.inside.received c.self.inside.read_count c.self.inside.near c.self.inside.end
apart c = (rw (on c) at c.self.invariant.1).apart refl

near : (c : After-self) → c.self.inside.read_count + c.args.count ≤ c.self.inside.near
near c = next_near _ _ _ _ _ _ _ (apart c) (came c)

pub overflow_sub-self : goal.overflow_sub-self
overflow_sub-self c =
    let h = (goal.at.overflow_sub-self c).After-self in
    next_stored _ _ _ _ _ _ (rw (on h) at c.self.invariant.0) (came h)

same : (c : After-shed) (q : ℕ) → c.self.inside.read_count + c.args.count ≤ q → set.contains c.self.inside.received q ≡ true
    → byte_of c.shed.new.ring.0 c.self.inside.near c.self.inside.apart.pages q ≡ byte_of c.self.inside.ring.0 c.self.inside.near c.self.inside.apart.pages q
same c q at there = search (rules, ring_moved, apart, near)

pub invariant_of-self : goal.invariant_of-self
invariant_of-self c =
    let s = c.self.inside in
    let h = (goal.at.invariant_of-self c).After-self in
    let low = near h in
    let a = apart h in
    let before = a.before in
    let small = a.small in
    let ends = a.ends in
    let after = ring_read s.received (byte_of s.ring.0 s.near s.apart.pages) s.window s.read_count c.args.count s.stored (rw (on h) at c.self.invariant.0) (came h) (omega (arith, low, before, small, ends)) in
    rw (on h) (
      same_ring _ _ _ _ _ _ after (same (goal.at.invariant_of-self c).After-shed),
      sized_taken s.ring.0 c.shed.new.ring.0 s.apart.pages s.received s.read_count (s.read_count + c.args.count) s.near s.end s.window (rw (on h) at c.self.invariant.1) low c.shed.ensures.reaches c.shed.ensures.fewer c.shed.ensures.bound,
      came_moved s.received s.read_count (s.read_count + c.args.count) s.near (s.read_count + c.args.count + (s.near - (s.read_count + c.args.count))) s.ring c.shed.new.ring (rw (on h) at c.self.invariant.2) (omega arith) (omega arith) c.shed.ensures.there,
    )

pub returns : goal.returns
returns c =
    let s = c.self.inside in
    let h = (goal.at.returns c).After-self in
    let f = byte_of s.ring.0 s.near s.apart.pages in
    let bytes = same_bytes s.received f (byte_of c.shed.new.ring.0 s.near s.apart.pages) s.window (s.read_count + c.args.count) (same (goal.at.returns c).After-shed) in
    rw (← c.self.view_is, on h, bytes, ← (ring_advanced s.received f s.window s.read_count c.args.count s.stored (rw (on h) at c.self.invariant.0))) refl
