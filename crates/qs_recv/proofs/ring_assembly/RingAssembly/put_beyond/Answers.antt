use Rattle.std.proofs.Common.{◌∙◌, ◌≡◌, ◌≤◌, ◌+◌, ◌-◌, ℕ, max, ap, refl, arith, length, true, false}
use Rattle.std.proofs.lemmas.Bool.{both_ways}
use Rattle.std.specs.FinSet as set
use Rattle.qs_recv.specs.Ring.{CameWritten, byte_of}
use Rattle.qs_recv.proofs.RingApart.{IsPutNear, apart_near, apart_taken, begun_anywhere, put_near, refused_near, ring_moved}
use Rattle.qs_recv.proofs.RingLaws.{least_of, put_fits, put_ring, ring_put, same_bytes, same_ring}
use Rattle.qs_recv.proofs.RingTurned.{came_moved, came_near, came_still, stay_begun}
use Rattle.qs_recv.proofs.ring_assembly.RingAssembly.put_beyond.Goals.{After-store}
use Rattle.qs_recv.proofs.ring_assembly.RingAssembly.put_beyond.Goals as goal

-- The ring reaches to the bytes, and has them

abbrev Near : After-store → Type 0
Near c =
    let s = c.self-2.inside in
    IsPutNear s.received s.read_count s.near s.end s.stored c.args.offset c.args.first s.window c.args.bytes.now s.ring.0 c.reach.new.ring.0 c.store.new.ring.0 s.apart.pages

on : (c : After-store) → c.self-2.inside.discarding ≡ false
on c = let view = ap (λ v. v.0) c.self-2.view_is ∙ c.in_ok-draw.ensures.same in (rw (← view) at c.requires).on

near : (c : After-store) → Near c
near c =
    let s = c.self-2.inside in
    let view = ap (λ v. v.0) c.self-2.view_is ∙ c.in_ok-draw.ensures.same in
    let req = rw (← view) at c.requires in
    let sized = rw (on c) at c.self-2.invariant.1 in
    let a = sized.apart refl in
    let reach = begun_anywhere c.args.first s.read_count (s.near - s.read_count) (c.args.offset + length c.args.bytes.now - s.read_count) c.size_to_reach-size.result s.ring.0 c.reach.new.ring.0 (rw c.front_of.ensures at c.in_ok-reach.ensures.ok) in
    let far = a.reaches in
    let more = reach.more in
    let reaches = reach.reaches in
    record {
      was = rw (on c) at c.self-2.invariant.0;
      apart = a;
      least = least_of _ _ _ _ _ req.gap req.some;
      some = req.some;
      within = req.in_window;
      range = req.in_range;
      last = rw (← c.self-2.view_is) at c.in_ok-draw.ensures.near;
      reaches = omega (arith, far, more);
      fits = omega (arith, reaches);
      moved = reach.moved;
      same_len = c.store.ensures.same_len;
      filled = c.store.ensures.filled;
    }

came : (c : After-store) → CameWritten c.reach.new.ring c.self-2.inside.received c.self-2.inside.read_count c.self-2.inside.near false
came c =
    let s = c.self-2.inside in
    came_moved s.received s.read_count s.read_count s.near (s.read_count + (s.near - s.read_count)) s.ring c.reach.new.ring (rw (on c) at c.self-2.invariant.2) (omega arith) (omega arith) (stay_begun c.args.first s.read_count (s.near - s.read_count) s.ring c.reach.new.ring (rw c.front_of.ensures at c.reach.ensures.there))

-- The offsets are noted

pub overflow_add-self : goal.overflow_add-self
overflow_add-self c =
    let done = put_near _ _ _ _ _ _ _ _ _ _ _ _ _ (near (goal.at.overflow_add-self c).After-store) in
    omega (arith, put_fits _ _ _ _ _ _ c.in-Ok.count _ _ _ done c.in-Ok.ensures.count)

pub invariant_of-self-in-Ok : goal.invariant_of-self-in-Ok
invariant_of-self-in-Ok c =
    let s = c.self-2.inside in
    let h = (goal.at.invariant_of-self-in-Ok c).After-store in
    let p = near h in
    let sized = rw (on h) at c.self-2.invariant.1 in
    let reach = c.in_ok-reach.ensures.ok in
    let same_len = p.same_len in
    let bound = reach.bound in
    let size = rw (← c.self-2.view_is) at c.size_to_reach-size.ensures in
    let size_fits = size.within in
    let size_bound = size.bound in
    let fits = sized.within in
    let was = sized.bound in
    let gap = c.requires.gap in
    rw (c.in-Ok.ensures.noted, on h, c.max-self-inside.ensures) (
      ring_put _ _ _ _ _ _ c.in-Ok.count _ _ _ (put_near _ _ _ _ _ _ _ _ _ _ _ _ _ p) c.in-Ok.ensures.count,
      record {
        within = omega (arith, same_len, bound, size_fits, fits);
        bound = omega (arith, same_len, bound, size_bound, was);
        whole = sized.whole;
        none = λ off. absurd (both_ways false refl off);
        apart = λ _. apart_near _ _ _ _ _ _ _ _ c.max-self-inside-in-Ok.result _ _ _ _ _ p c.max-self-inside-in-Ok.ensures;
      },
      came_near s.received s.read_count s.near c.args.offset (length c.args.bytes.now) c.args.first (max s.near (c.args.offset + length c.args.bytes.now)) c.reach.new.ring c.store.new.ring
          (came h) c.store.ensures.kept c.store.ensures.there (rw (← (ap (λ v. v.0) c.self-2.view_is ∙ c.in_ok-draw.ensures.same)) at gap.came) p.last refl,
    )

pub returns-in-Ok-clause-ok : goal.returns-in-Ok-clause-ok
returns-in-Ok-clause-ok c =
    let h = (goal.at.returns-in-Ok-clause-ok c).After-store in
    let done = put_near _ _ _ _ _ _ _ _ _ _ _ _ _ (near h) in
    let view = ap (λ v. v.0) c.self-2.view_is ∙ c.in_ok-draw.ensures.same in
    rw (← view, c.in-Ok.ensures.noted, on h, c.max-self-inside.ensures) (put_ring _ _ _ _ _ _ _ _ _ done)

-- They aren't

pub invariant_of-self-in-Err : goal.invariant_of-self-in-Err
invariant_of-self-in-Err c =
    let s = c.self-2.inside in
    let h = (goal.at.invariant_of-self-in-Err c).After-store in
    let p = near h in
    let sized = rw (on h) at c.self-2.invariant.1 in
    let less = c.shed.new.ring.0 in
    let same : (q : ℕ) → s.read_count ≤ q → set.contains s.received q ≡ true → byte_of less s.near s.apart.pages q ≡ byte_of s.ring.0 s.near s.apart.pages q =
    λ q low came. ring_moved c.store.new.ring.0 less s.apart.pages s.read_count s.near (s.near - s.read_count) q refl c.shed.ensures.moved low ∙ refused_near _ _ _ _ _ _ _ _ _ _ _ _ _ p q low came in
    let same_len = p.same_len in
    let bound = c.in_ok-reach.ensures.ok.bound in
    let size_fits = (rw (← c.self-2.view_is) at c.size_to_reach-size.ensures).within in
    let fits = sized.within in
    rw (c.in-Err.ensures.err, on h) (
      same_ring _ _ _ _ _ _ p.was same,
      record {
        within = omega (arith, same_len, bound, size_fits, fits, c.shed.ensures.fewer);
        bound = c.shed.ensures.bound;
        whole = sized.whole;
        none = λ off. absurd (both_ways false refl off);
        apart = λ _. apart_taken s.ring.0 less s.apart.pages s.received s.read_count s.read_count s.near s.end p.apart p.apart.starts c.shed.ensures.reaches;
      },
      came_moved s.received s.read_count s.read_count s.near (s.read_count + (s.near - s.read_count)) c.store.new.ring c.shed.new.ring
          (came_still s.received s.read_count s.near c.reach.new.ring c.store.new.ring (came h) c.store.ensures.kept) (omega arith) (omega arith) c.shed.ensures.there,
    )

pub returns-in-Err-clause-err : goal.returns-in-Err-clause-err
returns-in-Err-clause-err c =
    let s = c.self-2.inside in
    let h = (goal.at.returns-in-Err-clause-err c).After-store in
    let less = c.shed.new.ring.0 in
    let same : (q : ℕ) → s.read_count ≤ q → set.contains s.received q ≡ true → byte_of less s.near s.apart.pages q ≡ byte_of s.ring.0 s.near s.apart.pages q =
    λ q low came. ring_moved c.store.new.ring.0 less s.apart.pages s.read_count s.near (s.near - s.read_count) q refl c.shed.ensures.moved low ∙ refused_near _ _ _ _ _ _ _ _ _ _ _ _ _ (near h) q low came in
    let view = ap (λ v. v.0) c.self-2.view_is ∙ c.in_ok-draw.ensures.same in
    rw (← view, c.in-Err.ensures.err, on h, same_bytes s.received (byte_of s.ring.0 s.near s.apart.pages) (byte_of less s.near s.apart.pages) s.window s.read_count same) refl
