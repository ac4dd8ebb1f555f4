use Rattle.std.proofs.Common.{sym, refl, arith, true}
use Rattle.std.specs.Ordering.{nat_cmp}
use Rattle.std.specs.FinMap as map
use Rattle.qs_ranges.proofs.Sets.{below-end_of}
use Rattle.qs_recv.specs.Ring.{byte_of}
use Rattle.qs_recv.proofs.RingLaws.{same_none}
use Rattle.qs_recv.proofs.RingApart.{same_kept}
use Rattle.qs_recv.proofs.ring_assembly.RingAssemblyAssembly.same.Goals as goal

pub returns-then-self : goal.returns-then-self
returns-then-self c =
    rw (← c.self.view_is, c.if-self.true) (sym (same_none map.empty c.args.offset c.args.bytes.now (λ q low high. map.get-empty nat_cmp q)))

pub returns-then-self-start : goal.returns-then-self-start
returns-then-self-start c =
    let s = c.self.inside in
    let a = (rw c.if-self.false at c.self.invariant.1).apart refl in
    let ends = a.ends in
    rw (← c.self.view_is, c.if-self.false)
    (same_kept s.received (byte_of s.ring.0 s.near s.apart.pages) c.args.bytes.now s.window s.read_count s.stored c.max-start.result c.args.offset true (rw c.if-self.false at c.self.invariant.0) c.max-start.ensures
    (λ _ q low high came. (let below = below-end_of s.received q came in absurd (omega (arith, below, ends, low, c.if-self-start.true))), λ _. refl))

pub returns : goal.returns
returns c =
    let s = c.self.inside in
    rw (← c.self.view_is, c.if-self.false)
    (same_kept s.received (byte_of s.ring.0 s.near s.apart.pages) c.args.bytes.now s.window s.read_count s.stored c.max-start.result c.args.offset c.is_kept.result (rw c.if-self.false at c.self.invariant.0) c.max-start.ensures
    c.is_kept.ensures)
