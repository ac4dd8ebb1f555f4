use Rattle.std.proofs.Common.{◌≡◌, ◌≤◌, ◌+◌, ◌-◌, ◌*◌, ◌/◌, ◌&&◌, ℕ, nat_lt, refl, arith, true, false, rules}
use Rattle.std.proofs.lemmas.Bool.{both_ways}
use Rattle.std.specs.FinSet as set
use Rattle.std.proofs.lemmas.Bool.Decides.{nat_tests}
use Rattle.qs_recv.specs.Ring.{IsApart, byte_of}
use Rattle.qs_recv.proofs.RingApart.{IsDrawn, apart_drawn, drawn_last, drawn_low, drawn_same, end_within, whole_less}
use Rattle.qs_recv.proofs.RingLaws.{same_bytes, same_ring}
use Rattle.qs_recv.proofs.RingTurned.{came_drawn}
use Rattle.qs_recv.proofs.ring_assembly.RingAssembly.draw.Goals.{After-is_empty, After-move_into}
use Rattle.qs_recv.proofs.ring_assembly.RingAssembly.draw.Goals as goal

on : (c : After-is_empty) → c.self.inside.discarding ≡ false
on c = rw (← c.self.view_is) at c.requires.on

apart : (c : After-is_empty) → IsApart c.self.inside.ring.0 c.self.inside.apart.pages c.self.inside.received c.self.inside.read_count c.self.inside.near c.self.inside.end
apart c = (rw (on c) at c.self.invariant.1).apart refl

pub gap_past-next-requires-clause-small : goal.gap_past-next-requires-clause-small
gap_past-next-requires-clause-small c = grind (arith, nat_tests, apart)

pub gap_past-next-requires-clause-at : goal.gap_past-next-requires-clause-at
gap_past-next-requires-clause-at c = grind (arith, nat_tests, apart)

pub size_for-size-requires-clause-fits : goal.size_for-size-requires-clause-fits
size_for-size-requires-clause-fits c = grind (arith, nat_tests, end_within, apart, on)

pub move_into-requires-clause-small : goal.move_into-requires-clause-small
move_into-requires-clause-small c = grind (arith, nat_tests, apart)

-- Pages were moved into the ring

abbrev Drawn : After-move_into → Type 0
Drawn c =
    let s = c.self.inside in
    IsDrawn s.received s.read_count s.near s.end c.gap_past-next.result c.args.end s.ring.0 c.reach.new.ring.0 c.move_into.new.ring.0 s.apart.pages c.move_into.new.self.pages

drawn : (c : After-move_into) → Drawn c
drawn c = search (rules, apart, on)

same : (c : After-move_into) (q : ℕ) → c.self.inside.read_count ≤ q → set.contains c.self.inside.received q ≡ true → byte_of c.move_into.new.ring.0 c.gap_past-next.result c.move_into.new.self.pages q ≡ byte_of c.self.inside.ring.0 c.self.inside.near c.self.inside.apart.pages q
same c q low came = drawn_same _ _ _ _ _ _ q _ _ _ _ _ (drawn c) low came

pub invariant_of-self-2 : goal.invariant_of-self-2
invariant_of-self-2 c =
    let s = c.self.inside in
    let h = (goal.at.invariant_of-self-2 c).After-move_into in
    let d = drawn h in
    let old = s.apart.pages in
    let next = c.gap_past-next.result in
    let on = rw (← c.self.view_is) at c.requires.on in
    let sized = rw on at c.self.invariant.1 in
    let later = drawn_low _ _ _ _ _ _ _ _ _ _ _ d in
    let same_len = d.same_len in
    let fits = sized.within in
    let size = c.size_for-size.ensures in
    let size_fits = size.within in
    let size_bound = size.bound in
    let bound = c.in_ok-reach.ensures.ok.bound in
    let was = sized.bound in
    rw on (
      same_ring _ _ _ _ _ _ (rw on at c.self.invariant.0) (same h),
      record {
        within = omega (arith, same_len, bound, size_fits, fits);
        bound = omega (arith, same_len, bound, size_bound, was, later);
        whole = whole_less old c.move_into.new.self.pages (λ n. nat_lt (s.near / 2048) n && nat_lt (n * 2048) next) sized.whole d.left;
        none = λ off. absurd (both_ways false refl off);
        apart = λ _. apart_drawn _ _ _ _ _ _ _ _ _ _ _ d;
      },
      came_drawn s.received s.read_count s.near next s.end (s.read_count + (s.near - s.read_count)) s.ring c.reach.new.ring c.move_into.new.ring old (rw on at c.self.invariant.2) d.apart (omega arith) c.reach.ensures.there c.move_into.ensures.kept c.move_into.ensures.there,
    )

pub returns-clause-same : goal.returns-clause-same
returns-clause-same c =
    let s = c.self.inside in
    let bytes = same_bytes s.received (byte_of s.ring.0 s.near s.apart.pages) (byte_of c.move_into.new.ring.0 c.gap_past-next.result c.move_into.new.self.pages) s.window s.read_count (same (goal.at.returns-clause-same c).After-move_into) in
    rw (← c.self.view_is, rw (← c.self.view_is) at c.requires.on, bytes) refl

pub returns-clause-near : goal.returns-clause-near
returns-clause-near c = λ q past came. drawn_last _ _ _ _ _ _ q _ _ _ _ _ (drawn (goal.at.returns-clause-near c).After-move_into) past came
