use Rattle.std.proofs.Common.{◌≡◌, ◌+◌, max, refl, arith, length, false, inr}
use Rattle.std.proofs.lemmas.Bool.{both_ways}
use Rattle.std.proofs.lemmas.Bool.Decides.{nat_tests}
use Rattle.qs_recv.specs.Ring.{byte_of}
use Rattle.qs_recv.proofs.RingApart.{IsPutNear, apart_near, apart_taken, put_near, refused_near, none_apart, sized_noted}
use Rattle.qs_recv.proofs.RingLaws.{least_of, put_fits, put_ring, ring_put, same_bytes, same_ring, all_known, gap_news, put_known, ring_noted}
use Rattle.qs_ranges.specs.Numbers.{covers}
use Rattle.qs_ranges.proofs.Sets.{end_of-ends}
use Rattle.qs_recv.proofs.RestLaws.{on_err, refused_news}
use Rattle.qs_recv.proofs.RingTurned.{came_near, came_off, came_still}
use Rattle.qs_recv.proofs.ring_assembly.RingAssemblyAssembly.put.Goals.{After-is_empty, After-store}
use Rattle.qs_recv.proofs.ring_assembly.RingAssemblyAssembly.put.Goals as goal

pub returns-then-offset-end-clause-ok : goal.returns-then-offset-end-clause-ok
returns-then-offset-end-clause-ok c = grind (arith, nat_tests, put_known)

pub invariant_of-self : goal.invariant_of-self
invariant_of-self c =
    let s = c.self.inside in
    rw c.if-self.true (
      ring_noted c.insert.result (byte_of s.ring.0 s.near s.apart.pages) s.received c.insert.new.self s.window s.read_count s.stored c.args.offset (length c.args.bytes.now) c.insert.ensures.ok c.insert.ensures.err (rw c.if-self.true at c.self.invariant.0),
      sized_noted s.ring.0 s.apart.pages s.received c.insert.new.self s.read_count s.near s.end s.window (rw c.if-self.true at c.self.invariant.1),
      came_off c.insert.new.self s.read_count s.near s.ring,
    )

pub returns-then-self-clause-news : goal.returns-then-self-clause-news
returns-then-self-clause-news c = rw (← c.self.view_is) (grind (arith, nat_tests, refused_news, on_err))

pub first_gap-first-requires : goal.first_gap-first-requires
first_gap-first-requires c = rw (((rw c.if-self.false at c.self.invariant.1).apart refl).ends) (end_of-ends c.self.inside.received)

pub returns-then-first-end-clause-ok : goal.returns-then-first-end-clause-ok
returns-then-first-end-clause-ok c =
    let s = c.self.inside in
    rw (← c.self.view_is) (put_known _ c.args.offset c.args.bytes.now
    (all_known s.received (byte_of s.ring.0 s.near s.apart.pages) s.window s.read_count s.stored c.args.offset (c.args.offset + length c.args.bytes.now) c.first_gap-first.result.0 s.discarding c.self.invariant.0
    (rw c.max-start.ensures at c.first_gap-first.ensures.came) c.if-first-end.true))

-- Where bytes stand apart, or the ring doesn't reach

-- one of the offsets didn't come
news : (c : After-is_empty) → covers c.self.inside.received c.args.offset (c.args.offset + length c.args.bytes.now) ≡ false
news c =
    gap_news c.self.inside.received c.args.offset c.self.inside.read_count (c.args.offset + length c.args.bytes.now) c.first_gap-first.result.0
    (rw c.max-start.ensures at (least_of _ _ _ _ _ c.first_gap-first.ensures c.if-first-end.false)) c.if-first-end.false

pub returns-then-not-is_empty-clause-news : goal.returns-then-not-is_empty-clause-news
returns-then-not-is_empty-clause-news c = rw (← c.self.view_is) (on_err c.put_beyond.result (news (goal.at.returns-then-not-is_empty-clause-news c).After-is_empty))

pub returns-then-not-is_empty-clause-still : goal.returns-then-not-is_empty-clause-still
returns-then-not-is_empty-clause-still c = rw (← c.self.view_is) (inr (c.if-self.false, news (goal.at.returns-then-not-is_empty-clause-still c).After-is_empty))

-- The ring has the bytes

abbrev Near : After-store → Type 0
Near c =
    let s = c.self.inside in
    IsPutNear s.received s.read_count s.near s.end s.stored c.args.offset c.first_gap-first.result.0 s.window c.args.bytes.now s.ring.0 s.ring.0 c.store.new.ring.0 s.apart.pages

near : (c : After-store) → Near c
near c =
    let s = c.self.inside in
    let on = c.if-self.false in
    let sized = rw on at c.self.invariant.1 in
    let a = sized.apart refl in
    record {
      was = rw on at c.self.invariant.0;
      apart = a;
      least = rw c.max-start.ensures at (least_of _ _ _ _ _ c.first_gap-first.ensures c.if-first-end.false);
      some = c.if-first-end.false;
      within = (rw (← c.self.view_is) at c.requires.in_window) on;
      range = c.requires.in_range;
      last = none_apart s.ring.0 s.apart.pages s.received s.read_count s.near s.end (c.args.offset + length c.args.bytes.now) a (c.is_empty.ensures.0 c.if-not-is_empty.false);
      reaches = a.reaches;
      fits = omega (arith, c.if-len-end.false, c.len.ensures);
      moved = λ q low high. refl;
      same_len = c.store.ensures.same_len;
      filled = c.store.ensures.filled;
    }

-- The offsets aren't noted

pub invariant_of-self-in_err-count : goal.invariant_of-self-in_err-count
invariant_of-self-in_err-count c =
    let s = c.self.inside in
    let p = near (goal.at.invariant_of-self-in_err-count c).After-store in
    let on = c.if-self.false in
    let sized = rw on at c.self.invariant.1 in
    let same_len = p.same_len in
    let within = sized.within in
    let bound = sized.bound in
    let far = p.reaches in
    rw (c.in_err-count.ensures.err, on) (
      same_ring _ _ _ _ _ _ p.was (refused_near _ _ _ _ _ _ _ _ _ _ _ _ _ p),
      record {
        within = omega (arith, same_len, within);
        bound = omega (arith, same_len, bound);
        whole = sized.whole;
        none = λ off. absurd (both_ways false refl off);
        apart = λ _. apart_taken s.ring.0 c.store.new.ring.0 s.apart.pages s.received s.read_count s.read_count s.near s.end p.apart p.apart.starts (omega (arith, same_len, far));
      },
      came_still s.received s.read_count s.near s.ring c.store.new.ring (rw on at c.self.invariant.2) c.store.ensures.kept,
    )

pub returns-in_err-count-clause-err : goal.returns-in_err-count-clause-err
returns-in_err-count-clause-err c =
    let p = near (goal.at.returns-in_err-count-clause-err c).After-store in
    let s = c.self.inside in
    let same = same_bytes s.received (byte_of s.ring.0 s.near s.apart.pages) (byte_of c.store.new.ring.0 s.near s.apart.pages) s.window s.read_count (refused_near _ _ _ _ _ _ _ _ _ _ _ _ _ p) in
    rw (← c.self.view_is, c.in_err-count.ensures.err, c.if-self.false, same) (on_err c.from_residual.result refl)

pub returns-in_err-count-clause-news : goal.returns-in_err-count-clause-news
returns-in_err-count-clause-news c = rw (← c.self.view_is) (on_err c.from_residual.result (news (goal.at.returns-in_err-count-clause-news c).After-is_empty))

-- They are

pub overflow_add-self : goal.overflow_add-self
overflow_add-self c =
    let done = put_near _ _ _ _ _ _ _ _ _ _ _ _ _ (near (goal.at.overflow_add-self c).After-store) in
    omega (arith, put_fits _ _ _ _ _ _ c.in_ok-count.count _ _ _ done c.in_ok-count.ensures.count)

pub invariant_of-self-2 : goal.invariant_of-self-2
invariant_of-self-2 c =
    let s = c.self.inside in
    let p = near (goal.at.invariant_of-self-2 c).After-store in
    let on = c.if-self.false in
    let sized = rw on at c.self.invariant.1 in
    let same_len = p.same_len in
    let within = sized.within in
    let bound = sized.bound in
    rw (c.in_ok-count.ensures.noted, on, c.max-self-inside.ensures) (
      ring_put _ _ _ _ _ _ c.in_ok-count.count _ _ _ (put_near _ _ _ _ _ _ _ _ _ _ _ _ _ p) c.in_ok-count.ensures.count,
      record {
        within = omega (arith, same_len, within);
        bound = omega (arith, same_len, bound);
        whole = sized.whole;
        none = λ off. absurd (both_ways false refl off);
        apart = λ _. apart_near _ _ _ _ _ _ _ _ c.max-self-inside-2.result _ _ _ _ _ p c.max-self-inside-2.ensures;
      },
      came_near s.received s.read_count s.near c.args.offset (length c.args.bytes.now) c.first_gap-first.result.0 (max s.near (c.args.offset + length c.args.bytes.now)) s.ring c.store.new.ring (rw on at c.self.invariant.2) c.store.ensures.kept c.store.ensures.there
          (rw c.max-start.ensures at c.first_gap-first.ensures.came) p.last refl,
    )

pub returns-clause-ok : goal.returns-clause-ok
returns-clause-ok c =
    let done = put_near _ _ _ _ _ _ _ _ _ _ _ _ _ (near (goal.at.returns-clause-ok c).After-store) in
    rw (← c.self.view_is, c.in_ok-count.ensures.noted, c.if-self.false, c.max-self-inside.ensures) (put_ring _ _ _ _ _ _ _ _ _ done)
