-- What is told is news no more, and other news stays.
use Rattle.std.proofs.Common.{◌≡◌, ℕ, ◌+◌, ◌/◌, true, false, not, ◌&&◌, ◌||◌, ◌==◌, Some, refl, sym, ap, ◌∙◌, subst, arith, inl}
use Rattle.std.specs.Cmp.{nat_cmp_total, unsigned_tied}
use Rattle.std.specs.FinSet as set
use Rattle.std.proofs.lemmas.Option.{same_Some}
use Rattle.std.proofs.lemmas.Bool.{both_ways}
use Rattle.std.proofs.lemmas.Bool.Decides.{nat_tests}
use Rattle.qs_ranges.specs.Numbers.{NumberSet}
use Rattle.qs_wire.specs.Streams.{dir_of}
use Rattle.qs_wire.specs.declared.stream_id.Dir.{Dir}
use Rattle.qs_wire.specs.declared.stream_id.Dir.TheVariants.{Bidi, Uni}
use Rattle.qs_wire.specs.declared.stream_id.Role.{Role}
use Rattle.qs_send.specs.Lane.{SendLane}
use Rattle.qs_calls.specs.declared.news.News.{News}
use Rattle.qs_calls.specs.declared.news.News.TheVariants.{Opened, Readable, Writable, Stopped, Finished, ResetAcked, Ended, Available, DataBlocked, StreamDataBlocked, StreamsBlocked}
use Rattle.qs_machine.specs.Tables.{index_of}
use Rattle.qs_machine.specs.Ends.{End, is_own_by}
use Rattle.qs_machine.specs.News.{IsHeld}
use Rattle.qs_machine.specs.Asking.{stopped_with}
use Rattle.qs_machine.specs.Heard.{WasResetAcked, HasFinished, place_of, ComesBefore}
use Rattle.qs_machine.specs.Hearing.{Hearing, heard_opened, with_opened, IsNextOpened, IsNews, having_told}

-- what is marked, and what isn't any more
module _ (s : NumberSet) (k : ℕ) where
  pub contains_marked : (q : ℕ) → set.contains (set.insert s k) q ≡ ((q == k) || set.contains s q)
  contains_marked q = set.contains-insert nat_cmp_total s k q ∙ ap (λ b. b || set.contains s q) (unsigned_tied q k)

  pub contains_unmarked : (q : ℕ) → set.contains (set.remove s k) q ≡ (not (q == k) && set.contains s q)
  contains_unmarked q = set.contains-remove nat_cmp_total s k q ∙ ap (λ b. not b && set.contains s q) (unsigned_tied q k)

  marked : set.contains (set.insert s k) k ≡ true
  marked = contains_marked k ∙ grind (arith, nat_tests)

  unmarked : set.contains (set.remove s k) k ≡ false
  unmarked = contains_unmarked k ∙ grind (arith, nat_tests)

  marked_beside : (q : ℕ) → (q ≡ k → ⊥) → set.contains (set.insert s k) q ≡ set.contains s q
  marked_beside q apart = contains_marked q ∙ grind (arith, nat_tests)

  unmarked_beside : (q : ℕ) → (q ≡ k → ⊥) → set.contains (set.remove s k) q ≡ set.contains s q
  unmarked_beside q apart = contains_unmarked q ∙ grind (arith, nat_tests)

-- one stream more is heard of
opened_more : (h : Hearing) (d : Dir) → heard_opened (with_opened h d) d ≡ heard_opened h d + 1
opened_more h d = grind arith

-- What was told is news no more.
pub told_is_over : (e : End) (h : Hearing) (n : News) → IsNews e h n → IsNews e (having_told n h) n → ⊥
told_is_over e h (Opened n) was is = let more = opened_more h (dir_of n) in omega (arith, was.next, is.next, more)
told_is_over e h (Readable n) was is = both_ways _ is.1 (marked h.readable n)
told_is_over e h (Writable n) was is = both_ways _ (unmarked h.short n) is.1
told_is_over e h (Stopped n code) was is = both_ways _ is.1 (marked h.stopped n)
told_is_over e h (Finished n) was is = both_ways _ is.1 (marked h.sent n)
told_is_over e h (ResetAcked n) was is = both_ways _ is.1 (marked h.sent n)
told_is_over e h (Ended n) was is = both_ways _ is.1 (marked h.ended n)
told_is_over e h (Available d) was is = both_ways _ (unmarked h.wants (place_of d)) is.1
told_is_over e h DataBlocked was is = both_ways false refl is.1
told_is_over e h (StreamDataBlocked n) was is = both_ways _ (unmarked h.blocked n) is.1
told_is_over e h (StreamsBlocked d) was is = both_ways _ (unmarked h.counts_blocked (place_of d)) is.1

-- Other news stays.

-- two of the peer's streams of a direction differ in their index
same_stream : (role : Role) (n m : ℕ) → is_own_by role n ≡ false → is_own_by role m ≡ false → dir_of n ≡ dir_of m → n / 4 ≡ m / 4 → n ≡ m
same_stream role n m n_theirs m_theirs dir index = grind (arith, nat_tests)

places_apart : (c d : Dir) → (c ≡ d → ⊥) → place_of c ≡ place_of d → ⊥
places_apart c d apart same = grind arith

-- a half whose reset is acknowledged isn't one that finished
not_both : (e : End) (n : ℕ) → IsHeld HasFinished e.sends n → IsHeld WasResetAcked e.sends n → ⊥
not_both e n (l, at, is) (m, there, was) = let same : l ≡ m = same_Some l m (sym at ∙ there) in both_ways l.reset_acked is.0 (ap (λ (x : SendLane). x.reset_acked) same ∙ was)

-- news of a stream that isn't marked, or is, once another one was
module _ (s : NumberSet) (k q : ℕ) (P : Type 0) where
  still_unmarked : P × (set.contains s q ≡ false) → (q ≡ k → ⊥) → P × (set.contains (set.insert s k) q ≡ false)
  still_unmarked is apart = (is.0, marked_beside s k q apart ∙ is.1)

  still_marked : P × (set.contains s q ≡ true) → (q ≡ k → ⊥) → P × (set.contains (set.remove s k) q ≡ true)
  still_marked is apart = (is.0, unmarked_beside s k q apart ∙ is.1)

-- where one more stream is heard of: of the peer's streams of the direction only that one was next
next_beside : (e : End) (h : Hearing) (n m : ℕ) → IsNextOpened e h n → IsNextOpened e h m → (m ≡ n → ⊥) → IsNextOpened e (with_opened h (dir_of n)) m
next_beside e h n m was is apart = record { theirs = is.theirs; opened = is.opened; next = go (dir_of n) (dir_of m) refl refl }
  where
    go : (c d : Dir) → dir_of n ≡ c → dir_of m ≡ d → index_of m ≡ heard_opened (with_opened h (dir_of n)) (dir_of m)
    go Bidi Uni at there = is.next ∙ grind arith
    go Uni Bidi at there = is.next ∙ grind arith
    go Bidi Bidi at there = absurd (apart (same_stream e.role m n is.theirs was.theirs (there ∙ sym at) (is.next ∙ ap (heard_opened h) (there ∙ sym at) ∙ sym was.next)))
    go Uni Uni at there = absurd (apart (same_stream e.role m n is.theirs was.theirs (there ∙ sym at) (is.next ∙ ap (heard_opened h) (there ∙ sym at) ∙ sym was.next)))

-- and where none more is
next_still : (e : End) (h k : Hearing) (m : ℕ) → k.opened_bidi ≡ h.opened_bidi → k.opened_uni ≡ h.opened_uni → IsNextOpened e h m → IsNextOpened e k m
next_still e h k m bidi uni is = record { theirs = is.theirs; opened = is.opened; next = is.next ∙ go (dir_of m) }
  where
    go : (d : Dir) → heard_opened h d ≡ heard_opened k d
    go Bidi = sym bidi
    go Uni = sym uni

opened_beside : (e : End) (h : Hearing) (d : Dir) (m : News) → ((k : ℕ) → m ≡ Opened k → ⊥) → IsNews e h m → IsNews e (with_opened h d) m
opened_beside e h Bidi (Opened k) other is = absurd (other k refl)
opened_beside e h Uni (Opened k) other is = absurd (other k refl)
opened_beside e h Bidi m other is = is
opened_beside e h Uni m other is = is

pub others_stay : (e : End) (h : Hearing) (n m : News) → IsNews e h n → IsNews e h m → (m ≡ n → ⊥) → (ComesBefore m n → ⊥) → IsNews e (having_told n h) m
others_stay e h (Opened n) (Opened m) was is apart late = next_beside e h n m was is (λ same. apart (ap Opened same))
others_stay e h (Opened n) m was is apart late = opened_beside e h (dir_of n) m (λ k same. grind arith) is
others_stay e h (Readable n) (Readable m) was is apart late = still_unmarked h.readable n m _ is (λ same. apart (ap Readable same))
others_stay e h (Writable n) (Writable m) was is apart late = still_marked h.short n m _ is (λ same. apart (ap Writable same))
others_stay e h (Stopped n code) (Stopped m other) was is apart late =
    still_unmarked h.stopped n m _ is (λ same. apart (stop_is e n m code other same was.0 is.0))
  where
    stop_is : (e : End) (n m code other : ℕ) → m ≡ n → stopped_with e n ≡ Some code → stopped_with e m ≡ Some other → Stopped m other ≡ Stopped n code
    stop_is e n m code other same at there = let one : other ≡ code = same_Some other code (sym there ∙ ap (stopped_with e) same ∙ at) in cc
-- a stop comes before any end, so where an end is first no stop is news
others_stay e h (Finished n) (Stopped m code) was is apart late = absurd (late (inl (omega arith)))
others_stay e h (ResetAcked n) (Stopped m code) was is apart late = absurd (late (inl (omega arith)))
others_stay e h (Finished n) (Finished m) was is apart late = still_unmarked h.sent n m _ is (λ same. apart (ap Finished same))
others_stay e h (Finished n) (ResetAcked m) was is apart late = still_unmarked h.sent n m _ is (λ same. not_both e n was.0 (subst (IsHeld WasResetAcked e.sends) same is.0))
others_stay e h (ResetAcked n) (Finished m) was is apart late = still_unmarked h.sent n m _ is (λ same. not_both e n (subst (IsHeld HasFinished e.sends) same is.0) was.0)
others_stay e h (ResetAcked n) (ResetAcked m) was is apart late = still_unmarked h.sent n m _ is (λ same. apart (ap ResetAcked same))
others_stay e h (Ended n) (Ended m) was is apart late = still_unmarked h.ended n m _ is (λ same. apart (ap Ended same))
others_stay e h (Available c) (Available d) was is apart late = still_marked h.wants (place_of c) (place_of d) _ is (places_apart d c (λ same. apart (ap Available same)))
others_stay e h DataBlocked DataBlocked was is apart late = absurd (apart refl)
others_stay e h (StreamDataBlocked n) (StreamDataBlocked m) was is apart late = still_marked h.blocked n m _ is (λ same. apart (ap StreamDataBlocked same))
others_stay e h (StreamsBlocked c) (StreamsBlocked d) was is apart late = still_marked h.counts_blocked (place_of c) (place_of d) _ is (places_apart d c (λ same. apart (ap StreamsBlocked same)))
others_stay e h n (Opened m) was is apart late = next_still e h (having_told n h) m refl refl is
others_stay e h n m was is apart late = is
