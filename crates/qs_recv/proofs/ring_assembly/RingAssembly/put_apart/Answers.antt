use Rattle.std.proofs.Common.{◌≡◌, ◌≤◌, ◌+◌, ◌*◌, ◌&&◌, ℕ, nat_le, nat_lt, refl, arith, length, true, false, rules}
use Rattle.std.proofs.lemmas.Bool.{both_ways}
use Rattle.std.specs.FinSet as set
use Rattle.qs_recv.specs.Ring.{byte_of}
use Rattle.qs_recv.proofs.RingApart.{IsPutFar, apart_far, apart_refused, put_far, refused_far, whole_less}
use Rattle.qs_recv.proofs.RingLaws.{least_of, put_fits, put_ring, ring_put, same_bytes, same_ring}
use Rattle.qs_recv.proofs.RingTurned.{came_far}
use Rattle.qs_recv.proofs.ring_assembly.RingAssembly.put_apart.Goals.{After-store_apart}
use Rattle.qs_recv.proofs.ring_assembly.RingAssembly.put_apart.Goals as goal

-- The pages have the bytes

abbrev Far : After-store_apart → Type 0
Far c =
    let s = c.self.inside in
    IsPutFar s.received s.read_count s.near s.end s.stored c.args.offset c.args.first s.window c.args.bytes.now s.ring.0 s.apart.pages c.store_apart.new.apart.pages

on : (c : After-store_apart) → c.self.inside.discarding ≡ false
on c = (rw (← c.self.view_is) at c.requires).on

far : (c : After-store_apart) → Far c
far c = search (rules, on, least_of)

-- The offsets are noted

pub overflow_add-self : goal.overflow_add-self
overflow_add-self c =
    let done = put_far _ _ _ _ _ _ _ _ _ _ _ _ (far (goal.at.overflow_add-self c).After-store_apart) c.in-Ok.ensures.filled in
    omega (arith, put_fits _ _ _ _ _ _ c.in-Ok.count _ _ _ done c.in-Ok.ensures.count)

pub invariant_of-self : goal.invariant_of-self
invariant_of-self c =
    let s = c.self.inside in
    let h = (goal.at.invariant_of-self c).After-store_apart in
    let p = far h in
    let req = rw (← c.self.view_is) at c.requires in
    let sized = rw (on h) at c.self.invariant.1 in
    rw (c.in-Ok.ensures.noted, on h) (
      ring_put _ _ _ _ _ _ c.in-Ok.count _ _ _ (put_far _ _ _ _ _ _ _ _ _ _ _ _ p c.in-Ok.ensures.filled) c.in-Ok.ensures.count,
      record {
        within = sized.within;
        bound = sized.bound;
        whole = c.store_apart.ensures.whole;
        none = λ off. absurd (both_ways false refl off);
        apart = λ _. apart_far _ _ _ _ _ _ _ _ c.max-self-inside.result _ _ _ _ p c.in-Ok.ensures.made c.max-self-inside.ensures;
      },
      came_far s.received s.read_count s.near c.args.offset (length c.args.bytes.now) c.args.first s.ring (rw (on h) at c.self.invariant.2) req.gap.came (omega (arith, req.far)),
    )

pub returns-in-Ok-clause-ok : goal.returns-in-Ok-clause-ok
returns-in-Ok-clause-ok c =
    let h = (goal.at.returns-in-Ok-clause-ok c).After-store_apart in
    let done = put_far _ _ _ _ _ _ _ _ _ _ _ _ (far h) c.in-Ok.ensures.filled in
    rw (← c.self.view_is, c.in-Ok.ensures.noted, on h) (put_ring _ _ _ _ _ _ _ _ _ done)

-- They aren't

pub invariant_of-self-in-Err : goal.invariant_of-self-in-Err
invariant_of-self-in-Err c =
    let s = c.self.inside in
    let h = (goal.at.invariant_of-self-in-Err c).After-store_apart in
    let p = far h in
    let new = c.store_apart.new.apart.pages in
    let less = c.give_back.new.self.pages in
    let sized = rw (on h) at c.self.invariant.1 in
    let same : (q : ℕ) → s.read_count ≤ q → set.contains s.received q ≡ true → byte_of s.ring.0 s.near less q ≡ byte_of s.ring.0 s.near s.apart.pages q =
    λ q low came. refused_far s.received s.ring.0 s.apart.pages new less s.read_count s.near s.end (c.args.offset + length c.args.bytes.now) q p.apart c.give_back.ensures c.store_apart.ensures.seen came in
    rw (c.in-Err.ensures.err, on h) (
      same_ring _ _ _ _ _ _ p.was same,
      record {
        within = sized.within;
        bound = sized.bound;
        whole = whole_less new less (λ n. nat_le s.end (n * 2048) && nat_lt (n * 2048) (c.args.offset + length c.args.bytes.now)) c.store_apart.ensures.whole c.give_back.ensures;
        none = λ off. absurd (both_ways false refl off);
        apart = λ _. apart_refused _ _ _ _ _ _ _ _ _ _ _ _ less p c.give_back.ensures;
      },
      rw (on h) at c.self.invariant.2,
    )

pub returns-in-Err-clause-err : goal.returns-in-Err-clause-err
returns-in-Err-clause-err c =
    let s = c.self.inside in
    let h = (goal.at.returns-in-Err-clause-err c).After-store_apart in
    let less = c.give_back.new.self.pages in
    let same : (q : ℕ) → s.read_count ≤ q → set.contains s.received q ≡ true → byte_of s.ring.0 s.near less q ≡ byte_of s.ring.0 s.near s.apart.pages q =
    λ q low came. refused_far s.received s.ring.0 s.apart.pages c.store_apart.new.apart.pages less s.read_count s.near s.end (c.args.offset + length c.args.bytes.now) q (far h).apart c.give_back.ensures c.store_apart.ensures.seen came in
    rw (← c.self.view_is, c.in-Err.ensures.err, on h, same_bytes s.received (byte_of s.ring.0 s.near s.apart.pages) (byte_of s.ring.0 s.near less) s.window s.read_count same) refl
