-- Pages of bytes that stand apart.
--     key_is      what a map has at a number after one value was written
--     piece_put      a piece that was written to one page
--     piece_there      a piece that stands in one page
--     left_next, piece_moved, all_moved      pages that were moved into a ring
--     apart_none, apart_gap      bytes that were written gap after gap
use Rattle.std.specs.BTreeMap as tree
use Rattle.std.specs.FinSet as set
use Rattle.std.specs.FinMap as map
use Rattle.std.proofs.Common.{◌≡◌, ℕ, ◌+◌, ◌-◌, ◌%◌, ◌<◌, ◌≤◌, false, min, List, length, refl, sym, ◌∙◌, ap, arith, inl, inr, length-drop, ◌++◌, subst}
use Rattle.std.specs.Prelude.{◌*◌, ◌/◌, cond, if◌then◌else◌, ◌&&◌, nat_lt, take, drop, slice_index, None, Some, ◌⊎◌, ◌==◌, max, nat_le, Bool, true, [], is_some, ◌^◌, zero, suc, ◌∷◌, Option, IsTrue, ◌↔◌, unwrap_or}
use Rattle.std.specs.Ordering.{nat_cmp}
use Rattle.std.specs.Global.{Vec}
use Rattle.std.specs.BTreeMap.{is_at, btree_map_len, IsOrdered}
use Rattle.std.proofs.lemmas.Bool.{cases_lt, both_ways, ltb-true, and_parts, leb-true, le-leb}
use Rattle.std.proofs.lemmas.Bool.Decides.{nat_tests}
use Rattle.std.proofs.lemmas.List.{get_or-take, get_or-drop, length-take, length-append}
use Rattle.qs_ranges.specs.Numbers.{NumberSet, is_within, MAX_VARINT, ContainsRange, IsLeastMissingFrom, end_of}
use Rattle.qs_recv.specs.Ring.{IsNextRun, IsWritten, IsApart, IsFilled, IsMoved, IsReach, IsRing, IsSized, byte_of, ring_bytes, stored_in_ring, missing_count, AreAt, around, places_of, AreKept}
use Rattle.qs_recv.specs.Pages.{AreWhole, IsFilledApart, Pages, in_page, is_used, moved_byte, page_byte, has_page}
use Rattle.qs_ranges.proofs.Sets.{below-end_of, end_of-member}
use Rattle.qs_recv.proofs.RingLaws.{is_in_run, with_run, contains-with_run, IsPut, end_more, get-ring, same_bytes, same_ring, len-ring, came_next, front_of_ring, front_stops, missing_parts, byte_in, byte_there, length_part, part, part_at as samelaws_part_at, same_at, same_true}
use Rattle.std.proofs.lemmas.Grind.{common_steps}
use Rattle.std.specs.declared.cmp.Ordering.TheVariants.{Less}
use Rattle.std.specs.List.{AllByRecursion}
use Rattle.std.specs.List.Sorted.{IsStrictlySortedBy}
use Rattle.std.specs.Map.{keys_of, lookup}
use Rattle.qs_recv.specs.Assembled.{front, same}
use Rattle.qs_recv.proofs.RingTurned.{length_parts, part_at as ringturned_part_at}
use Rattle.std.specs.Bool.{Decides}
use Rattle.std.specs.Cmp.{both_ways as same_tests}

-- A piece in one page

part_at : (done count k : ℕ) (bytes : List ℕ) → k < count → slice_index (take (done + count - done) (drop done bytes)) k ≡ slice_index bytes (done + k)
part_at done count k bytes below = get_or-take (done + count - done) (drop done bytes) k 0 (omega (arith, below)) ∙ get_or-drop done bytes k 0

part_len : (done count : ℕ) (bytes : List ℕ) → count ≤ length bytes - done → length (take (done + count - done) (drop done bytes)) ≡ count
part_len done count bytes fits = simp (length-take, length-drop) (omega (arith, fits))

pub piece_whole : (m n : Pages) (k : ℕ) (page after : Vec ℕ) → AreWhole m → Some page ≡ tree.get nat_cmp m k → length after.items ≡ length page.items
    → ((q : ℕ) → tree.get nat_cmp n q ≡ cond (is_at (nat_cmp k) q) (Some after) (tree.get nat_cmp m q)) → AreWhole n
piece_whole m n k page after whole is len updates q other there = grind (arith, nat_tests)

pub piece_stays : (init m n : Pages) (k q : ℕ) (page after : Vec ℕ) → Some page ≡ tree.get nat_cmp m k → tree.get nat_cmp n q ≡ cond (is_at (nat_cmp k) q) (Some after) (tree.get nat_cmp m q)
    → is_used m q ≡ is_used init q → is_used n q ≡ is_used init q
piece_stays init m n k q page after is updates stay = grind (arith, nat_tests)

pub piece_put : (init m n : Pages) (at done count q : ℕ) (bytes : List ℕ) (page after : Vec ℕ) → done < length bytes → count ≡ min (length bytes - done) (2048 - (at + done) % 2048)
    → Some page ≡ tree.get nat_cmp m ((at + done) / 2048)
    → tree.get nat_cmp n (q / 2048) ≡ cond (is_at (nat_cmp ((at + done) / 2048)) (q / 2048)) (Some after) (tree.get nat_cmp m (q / 2048))
    → ((k : ℕ) → slice_index after.items k ≡ (if is_within ((at + done) % 2048) ((at + done) % 2048 + length (take (done + count - done) (drop done bytes))) k then slice_index (take (done + count - done) (drop done bytes)) (k - (at + done) % 2048) else slice_index page.items k))
    → page_byte m q ≡ (if is_within at (at + done) q then slice_index bytes (q - at) else page_byte init q)
    → page_byte n q ≡ (if is_within at (at + (done + count)) q then slice_index bytes (q - at) else page_byte init q)
piece_put init m n at done count q bytes page after some count_is is updates wrote before = grind (arith, nat_tests, part_len, part_at)

-- a piece that stands in one page
pub piece_there : (m : Pages) (at done count k : ℕ) (bytes : List ℕ) (page : Vec ℕ) → count ≡ min (length bytes - done) (2048 - (at + done) % 2048) → Some page ≡ tree.get nat_cmp m ((at + done) / 2048)
    → ((i : ℕ) → i < length (take (done + count - done) (drop done bytes)) → slice_index (take (done + count - done) (drop done bytes)) i ≡ slice_index page.items ((at + done) % 2048 + i))
    → (k < done → slice_index bytes k ≡ page_byte m (at + k)) → k < done + count → slice_index bytes k ≡ page_byte m (at + k)
piece_there m at done count k bytes page count_is is there before below =
    elim (cases_lt k done) [
      | inl early ↦ before early
      | inr later ↦
          let len = part_len done count bytes (omega (arith, count_is)) in
          let i : k - done < count = omega (arith, later, below) in
          let e : done + (k - done) ≡ k = omega (arith, later) in
          let number : (at + done) / 2048 ≡ (at + k) / 2048 = omega (arith, later, below, count_is) in
          let place : (at + done) % 2048 + (k - done) ≡ (at + k) % 2048 = omega (arith, later, below, count_is) in
          sym (ap (slice_index bytes) e) ∙ sym (part_at done count (k - done) bytes i) ∙ there (k - done) (omega (arith, len, i)) ∙ ap (slice_index page.items) place
          ∙ ap (λ o. in_page o ((at + k) % 2048)) is ∙ ap (λ n. in_page (tree.get nat_cmp m n) ((at + k) % 2048)) number
    ]

-- Pages that are moved into a ring, one after the other

-- one page more is gone
pub left_next : (init m n : Pages) (from to number k : ℕ) → number * 2048 < to → from < number * 2048
    → tree.get nat_cmp m k ≡ cond (nat_lt (from / 2048) k && (nat_lt k number && nat_lt (k * 2048) to)) None (tree.get nat_cmp init k)
    → tree.get nat_cmp n k ≡ cond (is_at (nat_cmp number) k) None (tree.get nat_cmp m k)
    → tree.get nat_cmp n k ≡ cond (nat_lt (from / 2048) k && (nat_lt k (number + 1) && nat_lt (k * 2048) to)) None (tree.get nat_cmp init k)
left_next init m n from to number k below past left updates = grind (arith, nat_tests)

-- what is still to be moved is as it was
pub left_there : (init m : Pages) (from to number : ℕ) → tree.get nat_cmp m number ≡ cond (nat_lt (from / 2048) number && (nat_lt number number && nat_lt (number * 2048) to)) None (tree.get nat_cmp init number)
    → tree.get nat_cmp m number ≡ tree.get nat_cmp init number
left_there init m from to number left = grind (arith, nat_tests)

-- a page more was moved
pub piece_moved : (init : Pages) (from to number base q count : ℕ) (page : Vec ℕ) (old mid new : List ℕ) → number * 2048 < to → from < number * 2048 → count ≡ min (to - number * 2048) 2048
    → Some page ≡ tree.get nat_cmp init number → length page.items ≡ 2048 → length mid ≡ length old → IsWritten (number * 2048) (take count page.items) mid new
    → base ≤ from → to ≤ base + length old → base ≤ q → q < to
    → slice_index mid (q % length old) ≡ (if nat_lt (q / 2048) number then moved_byte init from q (slice_index old (q % length old)) else slice_index old (q % length old))
    → slice_index new (q % length old) ≡ (if nat_lt (q / 2048) (number + 1) then moved_byte init from q (slice_index old (q % length old)) else slice_index old (q % length old))
piece_moved init from to number base q count page old mid new below past count_is is whole same_len wrote base_low fits low high before = grind (arith, nat_tests, length-take, get_or-take)

-- a page that isn't in use is passed over
pub piece_passed : (init : Pages) (from number q mid old : ℕ) → None ≡ tree.get nat_cmp init number
    → mid ≡ (if nat_lt (q / 2048) number then moved_byte init from q old else old) → mid ≡ (if nat_lt (q / 2048) (number + 1) then moved_byte init from q old else old)
piece_passed init from number q mid old none before = grind (arith, nat_tests)

-- all pages past the first and below the end
pub all_moved : (init : Pages) (from to number q now old : ℕ) → to ≤ number * 2048 → q < to → now ≡ (if nat_lt (q / 2048) number then moved_byte init from q old else old) → now ≡ moved_byte init from q old
all_moved init from to number q now old over high is = grind (arith, nat_tests)

-- Gap after gap

pub apart_none : (r : NumberSet) (first offset : ℕ) (bytes : List ℕ) (pages : Pages) → IsFilledApart r first first offset bytes pages pages
apart_none r first offset bytes pages q =
    let none : is_within first first q ≡ false = grind (arith, nat_tests) in
    rw none refl

pub apart_gap : (r : NumberSet) (first at end stop next offset : ℕ) (bytes : List ℕ) (old mid new : Pages) → offset ≤ first → first ≤ at → end ≤ offset + length bytes → at < stop → IsNextRun r at end stop next
    → IsFilledApart r first at offset bytes old mid
    → ((q : ℕ) → page_byte new q ≡ (if is_within at (at + length (take (stop - offset - (at - offset)) (drop (at - offset) bytes))) q then slice_index (take (stop - offset - (at - offset)) (drop (at - offset) bytes)) (q - at) else page_byte mid q))
    → IsFilledApart r first next offset bytes old new
apart_gap r first at end stop next offset bytes old mid new begins low_at fits some g filled written q = grind (arith, nat_tests, length-take, length-drop, get_or-take, get_or-drop)

-- ---- A ring, and what stands apart from it.
--     byte_near, byte_far      the byte of an offset, in the ring and in its page
--     near_missing, none_span      where the ring's bytes end
--     ring_moved, apart_taken, sized_taken      a ring of another size, once more was read
--     put_near, apart_near, ..      a put into the ring
--     put_far, apart_far, ..      a put into pages
--     drawn_same, apart_drawn      pages that were moved into the ring

-- The byte of an offset

pub byte_near : (ring : List ℕ) (near : ℕ) (pages : Pages) (q : ℕ) → q < near → byte_of ring near pages q ≡ slice_index ring (q % length ring)
byte_near ring near pages q h = let t : nat_lt q near ≡ true = grind (arith, nat_tests) in ap (λ b. if b then slice_index ring (q % length ring) else page_byte pages q) t

pub byte_far : (ring : List ℕ) (near : ℕ) (pages : Pages) (q : ℕ) → near ≤ q → byte_of ring near pages q ≡ page_byte pages q
byte_far ring near pages q h = let t : nat_lt q near ≡ false = grind (arith, nat_tests) in ap (λ b. if b then slice_index ring (q % length ring) else page_byte pages q) t

-- Where the ring's bytes end

-- what is next to be read lies below
pub next_near : (ring : List ℕ) (pages : Pages) (r : NumberSet) (from near end n : ℕ) → IsApart ring pages r from near end → ContainsRange r from (from + n) → from + n ≤ near
next_near ring pages r from near end n a came = grind (arith, nat_tests)

-- where nothing is stored, nothing came past what was read
pub none_span : (r : NumberSet) (f : ℕ → ℕ) (w from stored : ℕ) → IsRing f r w from stored false → stored ≡ 0 → end_of r ≤ from
none_span r f w from stored h none =
    elim (cases_lt from (end_of r)) [
      | inl some ↦
          let last = end_of-member r (omega (arith, some)) in
          let q = end_of r - 1 in
          let high = h.came_within refl q last in
          let t : is_in_run q from w ≡ true = grind (arith, nat_tests, some) in
          let there = get-ring r f w from w q ∙ ap (λ b. cond (b && set.contains r q) (Some (f q)) None) t ∙ ap (λ b. cond b (Some (f q)) None) last in
          let gone = ap (λ m. map.get m q) (map.empty_of_len (ring_bytes r f from w) (sym h.counted ∙ none)) ∙ map.get-empty nat_cmp q in
          absurd (both_ways _ (ap is_some gone) (ap is_some there))
      | inr over ↦ over
    ]

-- A ring of another size

pub ring_moved : (old new : List ℕ) (pages : Pages) (from near span q : ℕ) → span ≡ near - from → IsMoved from span old new → from ≤ q → byte_of new near pages q ≡ byte_of old near pages q
ring_moved old new pages from near span q is moved low = grind (arith, nat_tests)

pub apart_taken : (old new : List ℕ) (pages : Pages) (r : NumberSet) (from after near end : ℕ) → IsApart old pages r from near end → after ≤ near → near - after ≤ length new → IsApart new pages r after near end
apart_taken old new pages r from after near end a low reaches = grind (arith, nat_tests)

pub sized_taken : (old new : List ℕ) (pages : Pages) (r : NumberSet) (from after near end window : ℕ) → IsSized old pages r from near end window false → after ≤ near → near - after ≤ length new → length new ≤ length old
    → length new ≤ max 4096 (3 * (near - after)) → IsSized new pages r after near end window false
sized_taken old new pages r from after near end window s low reaches fewer bound = grind (arith, nat_tests)

-- A put into the ring

-- the ring before, one that reaches as far as the bytes, and with these in its gaps
pub record IsPutNear (r : NumberSet) (from near end stored offset first window : ℕ) (bytes ring wide new : List ℕ) (pages : Pages) : Type 0 where
  pub was : IsRing (byte_of ring near pages) r window from stored false
  pub apart : IsApart ring pages r from near end
  pub least : IsLeastMissingFrom r (max offset from) first
  pub some : first < offset + length bytes
  pub within : offset + length bytes ≤ from + window
  pub range : offset + length bytes ≤ MAX_VARINT
  pub last : (q : ℕ) → near ≤ q → set.contains r q ≡ true → offset + length bytes ≤ near
  pub reaches : near ≤ from + length wide
  pub fits : offset + length bytes ≤ from + length wide
  pub moved : IsMoved from (near - from) ring wide
  pub same_len : length new ≡ length wide
  pub filled : IsFilled r first (offset + length bytes) offset bytes wide new

-- what came shows the same, whether the offsets are noted or not
near_same : (r : NumberSet) (from near end stored offset first window after q : ℕ) (bytes ring wide new : List ℕ) (pages : Pages) → IsPutNear r from near end stored offset first window bytes ring wide new pages
    → near ≤ after → after ≤ max near (offset + length bytes) → from ≤ q → set.contains r q ≡ true → byte_of new after pages q ≡ byte_of ring near pages q
near_same r from near end stored offset first window after q bytes ring wide new pages p more most low came = grind (arith, nat_tests)

pub put_near : (r : NumberSet) (from near end stored offset first window : ℕ) (bytes ring wide new : List ℕ) (pages : Pages) → IsPutNear r from near end stored offset first window bytes ring wide new pages
    → IsPut r window from stored offset first bytes (byte_of ring near pages) (byte_of new (max near (offset + length bytes)) pages)
put_near r from near end stored offset first window bytes ring wide new pages p =
    let least = p.least.from in
    record {
      was = p.was;
      least = p.least;
      some = p.some;
      fits = p.within;
      same = λ q low came. near_same r from near end stored offset first window (max near (offset + length bytes)) q bytes ring wide new pages p (omega arith) (omega arith) low came;
      new = grind (arith, nat_tests);
    }

pub refused_near : (r : NumberSet) (from near end stored offset first window : ℕ) (bytes ring wide new : List ℕ) (pages : Pages) → IsPutNear r from near end stored offset first window bytes ring wide new pages
    → (q : ℕ) → from ≤ q → set.contains r q ≡ true → byte_of new near pages q ≡ byte_of ring near pages q
refused_near r from near end stored offset first window bytes ring wide new pages p q low came = grind (arith, nat_tests)

some_after : (pages : Pages) (ring : List ℕ) (r : NumberSet) (from near end n : ℕ) → IsApart ring pages r from near end → is_used pages n ≡ true → (near ≤ end - 1) × (set.contains r (end - 1) ≡ true)
some_after pages ring r from near end n a is = grind (arith, nat_tests, end_of-member)

pub apart_near : (r : NumberSet) (from near end stored offset first window last : ℕ) (bytes ring wide new : List ℕ) (pages : Pages) → IsPutNear r from near end stored offset first window bytes ring wide new pages
    → last ≡ max end (offset + length bytes) → IsApart new pages (with_run r offset (length bytes)) from (max near (offset + length bytes)) last
apart_near r from near end stored offset first window last bytes ring wide new pages p last_is =
    let a = p.apart in
    let some = p.some in
    let least = p.least.from in
    let starts = a.starts in
    let before = a.before in
    let ends = a.ends in
    let reaches = p.reaches in
    let fits = p.fits in
    let same = p.same_len in
    let small = a.small in
    let range = p.range in
    let new_end = end_more r offset (length bytes) end last a.ends (omega (arith, some, least)) last_is in
    record {
      ends = new_end;
      small = omega (arith, small, range, last_is);
      starts = omega (arith, starts);
      before = omega (arith, before, ends, new_end, last_is);
      reaches = omega (arith, reaches, fits, same);
      gap = λ q past came. (let old = old_one q past came in let over = p.last q (omega (arith, past)) old in let gap = a.gap q (omega (arith, past)) old in omega (arith, over, gap));
      had = λ q past came. a.had q (omega (arith, past)) (old_one q past came);
      used = λ n is.
          let u = a.used n is in
          let low = u.0 in
          let high = u.1 in
          let there = some_after pages ring r from near end n a is in
          let over = p.last (end - 1) there.0 there.1 in
          (omega (arith, low, over), omega (arith, high, last_is));
    }
  where
    old_one : (q : ℕ) → max near (offset + length bytes) ≤ q → set.contains (with_run r offset (length bytes)) q ≡ true → set.contains r q ≡ true
    old_one q past came = grind (arith, nat_tests, contains-with_run, ltb-true)

-- A put into pages

pub record IsPutFar (r : NumberSet) (from near end stored offset first window : ℕ) (bytes ring : List ℕ) (old new : Pages) : Type 0 where
  pub was : IsRing (byte_of ring near old) r window from stored false
  pub apart : IsApart ring old r from near end
  pub least : IsLeastMissingFrom r (max offset from) first
  pub some : first < offset + length bytes
  pub within : offset + length bytes ≤ from + window
  pub range : offset + length bytes ≤ MAX_VARINT
  pub far : near + 2048 ≤ first
  pub stay : (n : ℕ) → is_used old n ≡ true → is_used new n ≡ true
  pub only : (n : ℕ) → is_used new n ≡ true → (is_used old n ≡ true) ⊎ ((first < n * 2048 + 2048) × (n * 2048 < offset + length bytes))

pub put_far : (r : NumberSet) (from near end stored offset first window : ℕ) (bytes ring : List ℕ) (old new : Pages) → IsPutFar r from near end stored offset first window bytes ring old new
    → IsFilledApart r first (offset + length bytes) offset bytes old new → IsPut r window from stored offset first bytes (byte_of ring near old) (byte_of ring near new)
put_far r from near end stored offset first window bytes ring old new p filled =
    let far = p.far in
    record {
      was = p.was;
      least = p.least;
      some = p.some;
      fits = p.within;
      same = grind (arith, nat_tests);
      new = grind (arith, nat_tests);
    }
  where
    kept : (q : ℕ) → set.contains r q ≡ true → page_byte new q ≡ page_byte old q
    kept q came = grind (arith, nat_tests)

pub apart_far : (r : NumberSet) (from near end stored offset first window last : ℕ) (bytes ring : List ℕ) (old new : Pages) → IsPutFar r from near end stored offset first window bytes ring old new
    → ((q : ℕ) → first ≤ q → q < offset + length bytes → has_page new q ≡ true) → last ≡ max end (offset + length bytes) → IsApart ring new (with_run r offset (length bytes)) from near last
apart_far r from near end stored offset first window last bytes ring old new p made last_is = grind (arith, nat_tests, end_more, contains-with_run, cases_lt)

-- where the offsets weren't noted, pages past the end are given back
pub refused_far : (r : NumberSet) (ring : List ℕ) (old new less : Pages) (from near end last q : ℕ) → IsApart ring old r from near end
    → ((n : ℕ) → tree.get nat_cmp less n ≡ (if nat_le end (n * 2048) && nat_lt (n * 2048) last then None else tree.get nat_cmp new n))
    → ((k : ℕ) → set.contains r k ≡ true → page_byte new k ≡ page_byte old k) → set.contains r q ≡ true → byte_of ring near less q ≡ byte_of ring near old q
refused_far r ring old new less from near end last q a gone seen came = grind (arith, nat_tests)

pub apart_refused : (r : NumberSet) (from near end stored offset first window : ℕ) (bytes ring : List ℕ) (old new less : Pages) → IsPutFar r from near end stored offset first window bytes ring old new
    → ((n : ℕ) → tree.get nat_cmp less n ≡ (if nat_le end (n * 2048) && nat_lt (n * 2048) (offset + length bytes) then None else tree.get nat_cmp new n)) → IsApart ring less r from near end
apart_refused r from near end stored offset first window bytes ring old new less p gone = grind (arith, nat_tests)

pub whole_less : (new less : Pages) (b : ℕ → Bool) → AreWhole new → ((n : ℕ) → tree.get nat_cmp less n ≡ (if b n then None else tree.get nat_cmp new n)) → AreWhole less
whole_less new less b whole gone n page is = grind (arith, nat_tests)

-- Pages that were moved into the ring

pub record IsDrawn (r : NumberSet) (from near end next upto : ℕ) (ring wide new : List ℕ) (old less : Pages) : Type 0 where
  pub apart : IsApart ring old r from near end
  pub within : next ≤ end
  pub past : next < end → max near upto < next
  pub whole : next < end → next % 2048 ≡ 0
  pub none : next < end → has_page old next ≡ false
  pub room : next - from ≤ length wide
  pub more : length ring ≤ length wide
  pub kept : IsMoved from (near - from) ring wide
  pub same_len : length new ≡ length wide
  pub left : (n : ℕ) → tree.get nat_cmp less n ≡ (if nat_lt (near / 2048) n && nat_lt (n * 2048) next then None else tree.get nat_cmp old n)
  pub moved : (base q : ℕ) → base ≤ near → next ≤ base + length wide → base ≤ q → q < next → slice_index new (q % length wide) ≡ moved_byte old near q (slice_index wide (q % length wide))

pub drawn_low : (r : NumberSet) (from near end next upto : ℕ) (ring wide new : List ℕ) (old less : Pages) → IsDrawn r from near end next upto ring wide new old less → near ≤ next
drawn_low r from near end next upto ring wide new old less d = grind (arith, nat_tests)

-- the page of what lies behind stays
stays_behind : (r : NumberSet) (from near end next upto q : ℕ) (ring wide new : List ℕ) (old less : Pages) → IsDrawn r from near end next upto ring wide new old less → next ≤ q → set.contains r q ≡ true
    → (next < end) × (tree.get nat_cmp less (q / 2048) ≡ tree.get nat_cmp old (q / 2048))
stays_behind r from near end next upto q ring wide new old less d past came = grind (arith, nat_tests, below-end_of)

pub drawn_same : (r : NumberSet) (from near end next upto q : ℕ) (ring wide new : List ℕ) (old less : Pages) → IsDrawn r from near end next upto ring wide new old less → from ≤ q → set.contains r q ≡ true
    → byte_of new next less q ≡ byte_of ring near old q
drawn_same r from near end next upto q ring wide new old less d low came =
    let starts = d.apart.starts in
    let reach = d.room in
    let later = drawn_low r from near end next upto ring wide new old less d in
    elim (cases_lt q next) [
      | inl below ↦
          let at = d.moved from q starts (omega (arith, reach, starts, later)) low below in
          byte_near new next less q below ∙ ap (λ n. slice_index new (q % n)) d.same_len ∙ at
          ∙ elim (cases_lt q near) [
            | inl old_one ↦
                let t : nat_lt (near / 2048) (q / 2048) ≡ false = grind (arith, nat_tests) in
                rw t (d.kept q low (omega (arith, old_one, low)) ∙ sym (byte_near ring near old q old_one))
            | inr past ↦
                let gap = d.apart.gap q past came in
                let t : nat_lt (near / 2048) (q / 2048) ≡ true = grind (arith, nat_tests) in
                let u = d.apart.had q past came in
                rw (t, u) (sym (byte_far ring near old q past))
          ]
      | inr past ↦
          byte_far new next less q past ∙ ap (λ o. in_page o (q % 2048)) (stays_behind r from near end next upto q ring wide new old less d past came).1
          ∙ sym (byte_far ring near old q (omega (arith, past, later)))
    ]

pub apart_drawn : (r : NumberSet) (from near end next upto : ℕ) (ring wide new : List ℕ) (old less : Pages) → IsDrawn r from near end next upto ring wide new old less → IsApart new less r from next end
apart_drawn r from near end next upto ring wide new old less d =
    let a = d.apart in
    let starts = a.starts in
    let ends = a.ends in
    let within = d.within in
    let reach = d.room in
    let same = d.same_len in
    let later = drawn_low r from near end next upto ring wide new old less d in
    record {
      ends = a.ends;
      small = a.small;
      starts = omega (arith, starts, later);
      before = omega (arith, within, ends);
      reaches = omega (arith, reach, same, starts, later);
      gap = λ q past came.
          let behind = stays_behind r from near end next upto q ring wide new old less d past came in
          let whole = d.whole behind.0 in
          let other = d.none behind.0 in
          let had = a.had q (omega (arith, past, later)) came in
          elim (cases_lt (next / 2048) (q / 2048)) [
            | inl more ↦ omega (arith, more, whole)
            | inr same_page ↦ (let e : next / 2048 ≡ q / 2048 = omega (arith, same_page, past) in absurd (both_ways _ other (ap (is_used old) e ∙ had)))
          ];
      had = λ q past came. ap is_some (stays_behind r from near end next upto q ring wide new old less d past came).1 ∙ a.had q (omega (arith, past, later)) came;
      used = λ n is. by_test n (nat_lt (near / 2048) n && nat_lt (n * 2048) next) refl (sym (ap is_some (d.left n)) ∙ is);
    }
  where
    by_test : (n : ℕ) (b : Bool) → (nat_lt (near / 2048) n && nat_lt (n * 2048) next) ≡ b → is_some (if b then None else tree.get nat_cmp old n) ≡ true → (next < n * 2048) × (n * 2048 < end)
    by_test n true t is = absurd (both_ways false refl is)
    by_test n false t is = grind (arith, nat_tests)

-- and none is left past bytes that end there
pub drawn_last : (r : NumberSet) (from near end next upto q : ℕ) (ring wide new : List ℕ) (old less : Pages) → IsDrawn r from near end next upto ring wide new old less → next ≤ q → set.contains r q ≡ true → upto ≤ next
drawn_last r from near end next upto q ring wide new old less d past came = grind (arith, nat_tests, below-end_of)

-- Rings and pages in which nothing is

pub sized_none : (ring : List ℕ) (pages : Pages) (r : NumberSet) (from near end window : ℕ) (off : Bool) → ring ≡ [] → ((n : ℕ) → tree.get nat_cmp pages n ≡ None) → btree_map_len pages ≡ 0
    → (off ≡ false → (near ≡ from) × (end ≡ end_of r) × (end_of r ≡ from) × (end ≤ MAX_VARINT)) → IsSized ring pages r from near end window off
sized_none ring pages r from near end window off is gone len on = grind (arith, nat_tests, below-end_of)

pub emptied_ring : (r : NumberSet) (f g : ℕ → ℕ) (w from stored : ℕ) (off : Bool) → IsRing f r w from stored off → stored ≡ 0 → IsRing g r w from stored off
emptied_ring r f g w from stored off h none = grind (arith, nat_tests, none_span, same_ring, below-end_of)

pub emptied_view : (r : NumberSet) (f g : ℕ → ℕ) (w from stored : ℕ) (off : Bool) → IsRing f r w from stored off → stored ≡ 0 → stored_in_ring r g w from off ≡ stored_in_ring r f w from off
emptied_view r f g w from stored off h none = grind (arith, nat_tests, none_span, same_bytes, below-end_of)

pub emptied_sized : (f : ℕ → ℕ) (ring new : List ℕ) (pages : Pages) (r : NumberSet) (from near end stored window : ℕ) (off : Bool) → IsRing f r window from stored off → IsSized ring pages r from near end window off → stored ≡ 0 → new ≡ []
    → IsSized new pages r from near end window off
emptied_sized f ring new pages r from near end stored window off h s n is = grind (arith, nat_tests, none_span)

-- what came lies within the window
pub end_within : (r : NumberSet) (f : ℕ → ℕ) (w from stored : ℕ) → IsRing f r w from stored false → end_of r ≤ from + w
end_within r f w from stored h =
    elim (cases_lt 0 (end_of r)) [
      | inl some ↦ (let high = h.came_within refl (end_of r - 1) (end_of-member r some) in omega (arith, high))
      | inr none ↦ omega (arith, none)
    ]

-- where nothing is kept, a ring may begin anywhere
pub begun_anywhere : (first from kept span size : ℕ) (old new : List ℕ) → IsReach (if kept == 0 then first else from) kept span size old new → IsReach from kept span size old new
begun_anywhere first from kept span size old new h =
    record {
      reaches = h.reaches;
      more = h.more;
      bound = h.bound;
      moved = grind (arith, nat_tests);
    }

-- where bytes are thrown away, other offsets may be noted
pub sized_noted : (ring : List ℕ) (pages : Pages) (r other : NumberSet) (from near end window : ℕ) → IsSized ring pages r from near end window true → IsSized ring pages other from near end window true
sized_noted ring pages r other from near end window s =
    record {
      within = s.within;
      bound = s.bound;
      whole = s.whole;
      none = s.none;
      apart = λ on. absurd (both_ways true on refl);
    }

-- ---- How many pages are in use.
--     used_bytes, used_all      how many of the n offsets from `a` on lie in pages that are
--     room_fits      what is stored has room
--     none_used, pages_fit      how many pages there may be
--     held_fits, held_idle, held_small, room_held, least_held      and bytes of memory

-- how many of the n offsets from `a` on lie in a page that is in use
used_bytes : List (ℕ × Vec ℕ) → ℕ → ℕ → ℕ
used_bytes es a zero = 0
used_bytes es a (suc n) = if is_some (lookup (is_at (nat_cmp ((a + n) / 2048))) es) then used_bytes es a n + 1 else used_bytes es a n

used_none : (a n : ℕ) → used_bytes [] a n ≡ 0
unfolding used_bytes
used_none a zero = refl
used_none a (suc n) = used_none a n

used_more : (e : ℕ × Vec ℕ) (es : List (ℕ × Vec ℕ)) (a n : ℕ) → used_bytes (e ∷ es) a n ≤ used_bytes es a n + (min (a + n) (e.0 * 2048 + 2048) - max a (e.0 * 2048))
unfolding used_bytes
used_more e es a zero = omega arith
used_more e es a (suc n) = grind (arith, nat_tests, used_more e es a n)

used_all : (es : List (ℕ × Vec ℕ)) (a n : ℕ) → used_bytes es a n ≤ length es * 2048
used_all [] a n = let none = used_none a n in omega (arith, none)
used_all (e ∷ es) a n = grind (arith, nat_tests, used_all es a n, used_more)

came_used : (r : NumberSet) (pages : Pages) (a n : ℕ) → ((q : ℕ) → a ≤ q → set.contains r q ≡ true → has_page pages q ≡ true) → n ≤ missing_count r a n + used_bytes pages.entries a n
unfolding used_bytes missing_count
came_used r pages a zero had = omega arith
came_used r pages a (suc n) had = grind (arith, nat_tests, came_used r pages a n had, used_bytes)

-- what is stored has room
pub room_fits : (r : NumberSet) (f : ℕ → ℕ) (ring : List ℕ) (pages : Pages) (w from near end : ℕ) → IsApart ring pages r from near end → length ring ≤ w → map.len (ring_bytes r f from w) ≤ length ring + btree_map_len pages * 2048
room_fits r f ring pages w from near end a within =
    let starts = a.starts in
    let reaches = a.reaches in
    let all = len-ring r f w from w in
    let e : w ≡ (near - from) + (w - (near - from)) = omega (arith, starts, reaches, within) in
    let at : from + (near - from) ≡ near = omega (arith, starts) in
    let parts = ap (missing_count r from) e ∙ missing_parts r from (near - from) (w - (near - from)) in
    let behind = ap (λ k. missing_count r k (w - (near - from))) at in
    let came = came_used r pages near (w - (near - from)) a.had in
    let used = used_all pages.entries near (w - (near - from)) in
    omega (arith, all, parts, behind, came, used, e, starts, reaches)

-- How many there may be

less_is : (x y : ℕ) → nat_cmp x y ≡ Less → x < y
less_is x y e = grind (arith, nat_tests)

all_past : (x : ℕ) (ks : List ℕ) → AllByRecursion (λ y. nat_cmp x y ≡ Less) ks → AllByRecursion (λ y. x + 1 ≤ y) ks
all_past x [] all = tt
all_past x (k ∷ ks) all = ((let low = less_is x k all.0 in omega (arith, low)), all_past x ks all.1)

sorted_fit : (ks : List ℕ) (lo hi : ℕ) → IsStrictlySortedBy nat_cmp ks → AllByRecursion (λ k. lo ≤ k) ks → AllByRecursion (λ k. k < hi) ks → length ks ≤ hi - lo
unfolding IsStrictlySortedBy
sorted_fit [] lo hi s low high = omega arith
sorted_fit (k ∷ ks) lo hi s low high = grind (arith, nat_tests, sorted_fit ks (k + 1) hi s.1 (all_past k ks s.0) high.1)

first_found : (e : ℕ × Vec ℕ) (es : List (ℕ × Vec ℕ)) → is_some (lookup (is_at (nat_cmp e.0)) (e ∷ es)) ≡ true
first_found e es = grind (arith, nat_tests)

found_behind : (b : Bool) (v : Vec ℕ) (o : Option (Vec ℕ)) → is_some o ≡ true → is_some (cond b (Some v) o) ≡ true
found_behind b v o is = grind (arith, nat_tests)

keys_used : (es : List (ℕ × Vec ℕ)) (P : ℕ → Type 0) → ((k : ℕ) → is_some (lookup (is_at (nat_cmp k)) es) ≡ true → P k) → AllByRecursion P (keys_of es)
keys_used [] P f = tt
keys_used (e ∷ es) P f = (f e.0 (first_found e es), keys_used es P (λ k is. f k (found_behind (is_at (nat_cmp k) e.0) e.1 (lookup (is_at (nat_cmp k)) es) is)))

keys_len : (es : List (ℕ × Vec ℕ)) → length (keys_of es) ≡ length es
keys_len es = grind (arith, common_steps)

none_len : (es : List (ℕ × Vec ℕ)) → ((k : ℕ) → is_some (lookup (is_at (nat_cmp k)) es) ≡ true → 1 ≤ 0) → length es ≡ 0
none_len [] f = refl
none_len (e ∷ es) f = (let no = f e.0 (first_found e es) in absurd (omega (arith, no)))

-- where all that came was read, no page is in use
pub none_used : (ring : List ℕ) (pages : Pages) (r : NumberSet) (from near end : ℕ) → IsApart ring pages r from near end → end_of r ≤ from → btree_map_len pages ≡ 0
none_used ring pages r from near end a over =
    let starts = a.starts in
    let ends = a.ends in
    none_len pages.entries (λ k is. (let u = a.used k is in let low = u.0 in let high = u.1 in omega (arith, low, high, starts, ends, over)))

pub pages_fit : (ring : List ℕ) (pages : Pages) (r : NumberSet) (from near end : ℕ) → IsApart ring pages r from near end → IsOrdered nat_cmp pages → btree_map_len pages * 2048 ≤ 2 * (end - near)
pages_fit ring pages r from near end a ordered =
    let ends = a.ends in
    let low = keys_used pages.entries (λ k. near / 2048 + 1 ≤ k) (λ k is. (let u = a.used k is in let past = u.0 in omega (arith, past))) in
    let high = keys_used pages.entries (λ k. k < (end - 1) / 2048 + 1) (λ k is. (let u = a.used k is in let below = u.1 in omega (arith, below))) in
    let count = sorted_fit (keys_of pages.entries) (near / 2048 + 1) ((end - 1) / 2048 + 1) ordered low high in
    let len = keys_len pages.entries in
    elim (cases_lt near end) [
      | inl some ↦
          let last = ap (λ e. set.contains r (e - 1)) ends ∙ end_of-member r (omega (arith, some, ends)) in
          let gap = a.gap (end - 1) (omega (arith, some)) last in
          omega (arith, count, len, gap)
      | inr over ↦ omega (arith, count, len, over)
    ]

pub held_fits : (ring : List ℕ) (pages : Pages) (r : NumberSet) (from near end window : ℕ) (off : Bool) → IsSized ring pages r from near end window off → IsOrdered nat_cmp pages
    → length ring + btree_map_len pages * 2048 ≤ max 4096 (4 * (end_of r - from))
held_fits ring pages r from near end window true s ordered = grind (arith, nat_tests)
held_fits ring pages r from near end window false s ordered =
    let a = s.apart refl in
    let fit = pages_fit ring pages r from near end a ordered in
    let bound = s.bound in
    let ends = a.ends in
    let starts = a.starts in
    let before = a.before in
    elim (cases_lt (near + 2048) end) [
      | inl more ↦ omega (arith, fit, bound, ends, starts, before, more)
      | inr few ↦
          let none = few_pages few in
          omega (arith, none, bound, ends, starts, before)
    ]
  where
    few_pages : end ≤ near + 2048 → btree_map_len pages ≡ 0
    few_pages few =
        let a = s.apart refl in
        let ends = a.ends in
        none_len pages.entries (λ k is.
        let u = a.used k is in
        let low = u.0 in
        let high = u.1 in
        let last = ap (λ e. set.contains r (e - 1)) ends ∙ end_of-member r (omega (arith, high, ends)) in
        let gap = a.gap (end - 1) (omega (arith, low, high)) last in
        omega (arith, gap, few, low, high))

pub held_idle : (f : ℕ → ℕ) (ring : List ℕ) (pages : Pages) (r : NumberSet) (from near end stored window : ℕ) (off : Bool) → IsRing f r window from stored off → IsSized ring pages r from near end window off → stored ≡ 0
    → length ring + btree_map_len pages * 2048 ≤ 4096
held_idle f ring pages r from near end stored window true h s none = grind (arith, nat_tests)
held_idle f ring pages r from near end stored window false h s none =
    let a = s.apart refl in
    let over = none_span r f window from stored h none in
    let gone = none_used ring pages r from near end a over in
    let before = a.before in
    let starts = a.starts in
    let bound = s.bound in
    omega (arith, gone, before, starts, bound, over)

pub held_small : (f : ℕ → ℕ) (ring : List ℕ) (pages : Pages) (r : NumberSet) (from near end stored window : ℕ) (off : Bool) → IsRing f r window from stored off → IsSized ring pages r from near end window off → IsOrdered nat_cmp pages
    → length ring + btree_map_len pages * 2048 ≤ 2 ^ 34
held_small f ring pages r from near end stored window true h s ordered = grind (arith, nat_tests)
held_small f ring pages r from near end stored window false h s ordered =
    let fits = held_fits ring pages r from near end window false s ordered in
    let small = h.small_window in
    elim (cases_lt 0 (end_of r)) [
      | inl some ↦ (let high = h.came_within refl (end_of r - 1) (end_of-member r some) in omega (arith, fits, small, high))
      | inr none ↦ omega (arith, fits, none)
    ]

pub room_held : (f : ℕ → ℕ) (ring : List ℕ) (pages : Pages) (r : NumberSet) (from near end window : ℕ) (off : Bool) → IsSized ring pages r from near end window off
    → map.len (stored_in_ring r f window from off) ≤ length ring + btree_map_len pages * 2048
room_held f ring pages r from near end window true s = let none = map.len-empty nat_cmp ℕ in omega (arith, none)
room_held f ring pages r from near end window false s = room_fits r f ring pages window from near end (s.apart refl) s.within

pub none_held : (f : ℕ → ℕ) (ring : List ℕ) (pages : Pages) (r : NumberSet) (from near end stored window : ℕ) (off : Bool) → IsRing f r window from stored off → IsSized ring pages r from near end window off → stored ≡ 0 → btree_map_len pages ≡ 0
none_held f ring pages r from near end stored window true h s none = (s.none refl).1
none_held f ring pages r from near end stored window false h s none = none_used ring pages r from near end (s.apart refl) (none_span r f window from stored h none)

-- where no page is in use, nothing stands apart
unused : (es : List (ℕ × Vec ℕ)) (n : ℕ) → length es ≡ 0 → is_some (lookup (is_at (nat_cmp n)) es) ≡ false
unused es n is = grind (arith, common_steps)

pub none_apart : (ring : List ℕ) (pages : Pages) (r : NumberSet) (from near end last : ℕ) → IsApart ring pages r from near end → btree_map_len pages ≡ 0 → (q : ℕ) → near ≤ q → set.contains r q ≡ true → last ≤ near
none_apart ring pages r from near end last a none q past came = absurd (both_ways _ (unused pages.entries (q / 2048) none) (a.had q past came))

-- what lies between what was read and the end of what came has room, up to a page
pub least_held : (f : ℕ → ℕ) (ring : List ℕ) (pages : Pages) (r : NumberSet) (from near end window : ℕ) (off : Bool) → IsSized ring pages r from near end window off → 0 < map.len (stored_in_ring r f window from off)
    → min 2048 (end_of r - from) ≤ length ring + btree_map_len pages * 2048
least_held f ring pages r from near end window true s some = let none = map.len-empty nat_cmp ℕ in absurd (omega (arith, none, some))
least_held f ring pages r from near end window false s some =
    let a = s.apart refl in
    let reaches = a.reaches in
    elim (cases_lt 0 (btree_map_len pages)) [
      | inl used ↦ omega (arith, used)
      | inr none ↦ elim (cases_lt near (end_of r)) [
        | inl more ↦ (let past = none_apart ring pages r from near end (end_of r) a (omega (arith, none)) (end_of r - 1) (omega (arith, more)) (end_of-member r (omega (arith, more))) in absurd (omega (arith, past, more)))
        | inr over ↦ omega (arith, reaches, over)
      ]
    ]

-- ---- What a look at a ring shows.

-- pieces that were written
pub shown_at : (at turn size place count : ℕ) (bytes one other : List ℕ) → 0 < size → turn ≤ size → length bytes ≤ size → place ≡ (at + turn) % size → count ≤ size → min (place + count) size ≤ length bytes → one ++ other ≡ around place count bytes
    → (length (one ++ other) ≡ count) × AreAt (places_of turn size bytes) at (one ++ other)
shown_at at turn size place count bytes one other pos turned within place_is fits reaches is = grind (arith, nat_tests, length_parts, length-append, ringturned_part_at)

-- so many offsets came, and the next one didn't
pub next_least : (r : NumberSet) (from next n : ℕ) → IsLeastMissingFrom r from next → n ≡ next - from → IsLeastMissingFrom r from (from + n)
next_least r from next n least is = (let begins = least.from in let same : next ≡ from + n = omega (arith, begins, is) in subst (IsLeastMissingFrom r from) same least)

-- bytes at their places, as far as all offsets came, are those that are next
pub next_shown : (r : NumberSet) (ring out : List ℕ) (pages : Pages) (w from near end next stored : ℕ) → IsRing (byte_of ring near pages) r w from stored false → IsApart ring pages r from near end → IsLeastMissingFrom r from next
    → length out ≤ next - from → AreAt ring from out → out ≡ front (ring_bytes r (byte_of ring near pages) from w) from (length out)
next_shown r ring out pages w from near end next stored h apart least short at =
    let came = came_next r from next (length out) (length out) least (omega (arith, short)) in
    let low = next_near ring pages r from near end (length out) apart came in
    sym (front_of_ring r (byte_of ring near pages) out w from (length out) stored h came refl (λ k below. at k below ∙ sym (byte_near ring near pages (from + k) (omega (arith, below, low)))))

-- ---- Bytes that are held against those that are kept.
--     run_more, run_there      run after run of the offsets that came
--     kept_has, same_kept      and so against the map that they stand for

-- Run after run

-- the offsets below the end of a run, where those below its beginning are settled
pub run_more : (r : NumberSet) (f : ℕ → ℕ) (bytes : List ℕ) (start offset end at from to : ℕ) → offset ≤ start → end ≤ offset + length bytes → start ≤ at → IsNextRun r at end from to
    → ((q : ℕ) → start ≤ q → q < at → set.contains r q ≡ true → slice_index bytes (q - offset) ≡ f q)
    → ((k : ℕ) → k < length (part offset bytes from to) → slice_index (part offset bytes from to) k ≡ f (from + k))
    → (q : ℕ) → start ≤ q → q < to → set.contains r q ≡ true → slice_index bytes (q - offset) ≡ f q
run_more r f bytes start offset end at from to low short begun run before there q past below came =
    let b = run.begins in
    let o = run.ordered in
    let e = run.ends in
    let len = length_part offset bytes from to (omega (arith, b)) o (omega (arith, e, short)) in
    elim (cases_lt q at) [
      | inl early ↦ before q past early came
      | inr later ↦ elim (cases_lt q from) [
        | inl gap ↦ absurd (both_ways _ (run.missing q later gap) came)
        | inr within ↦
            let back : from + (q - from) ≡ q = omega (arith, within) in
            ap (λ i. slice_index bytes (i - offset)) (sym back)
            ∙ sym (samelaws_part_at offset bytes from to (q - from) (omega (arith, b)) (omega (arith, within, below)))
            ∙ there (q - from) (omega (arith, len, within, below)) ∙ ap f back
      ]
    ]

-- a run whose bytes aren't there tells it of the whole
pub run_there : (r : NumberSet) (f : ℕ → ℕ) (bytes : List ℕ) (start offset end at from to : ℕ) → offset ≤ start → end ≤ offset + length bytes → start ≤ at → IsNextRun r at end from to
    → AreKept r f start offset bytes → (k : ℕ) → k < length (part offset bytes from to) → slice_index (part offset bytes from to) k ≡ f (from + k)
run_there r f bytes start offset end at from to low short begun run all k below = grind (arith, nat_tests, length_part, samelaws_part_at)

-- The map that the bytes stand for

some_by : (t : Bool) (v b : ℕ) → cond t (Some v) None ≡ Some b → (t ≡ true) × (Some v ≡ Some b)
some_by t v b e = grind (arith, nat_tests)

kept_has : (r : NumberSet) (f : ℕ → ℕ) (w from q : ℕ) → from ≤ q → q < from + w → set.contains r q ≡ true → map.get (ring_bytes r f from w) q ≡ Some (f q)
kept_has r f w from q low high came = grind (arith, nat_tests, get-ring, le-leb)

pub same_kept : (r : NumberSet) (f : ℕ → ℕ) (bytes : List ℕ) (w from stored start offset : ℕ) (b : Bool) → IsRing f r w from stored false → start ≡ max offset from
    → Decides b (AreKept r f start offset bytes) → b ≡ same (ring_bytes r f from w) offset bytes
same_kept r f bytes w from stored start offset b h start_is decides =
    same_tests b (same (ring_bytes r f from w) offset bytes)
    (λ equal. same_true (ring_bytes r f from w) offset bytes (λ q x y e g.
    let p = some_by (is_in_run q from w && set.contains r q) (f q) x (sym (get-ring r f w from w q) ∙ e) in
    let parts = and_parts (is_in_run q from w) (set.contains r q) p.0 in
    let low : from ≤ q = leb-true from q (and_parts _ _ parts.0).0 in
    let there = byte_in offset bytes q y g in
    some_is (f q) x p.1 ∙ sym (decides.0 equal q (omega (arith, there.0, low, start_is)) there.1 parts.1) ∙ there.2))
    (λ all. decides.1 (λ q past below came.
    let low : from ≤ q = omega (arith, past, start_is) in
    sym (same_at (ring_bytes r f from w) offset bytes q (f q) (slice_index bytes (q - offset)) all
    (kept_has r f w from q low (h.came_within refl q came) came) (byte_there offset bytes q (omega (arith, past, start_is)) below))))
  where
    some_is : (v x : ℕ) → Some v ≡ Some x → x ≡ v
    some_is v x e = ap (λ o. unwrap_or o 0) (sym e)

-- A run on either side

pub there_near : (r : NumberSet) (ring bytes : List ℕ) (pages : Pages) (start near offset end at from to : ℕ) (b : Bool) → offset ≤ start → end ≤ offset + length bytes → start ≤ at → set.contains r near ≡ false → from < near → IsNextRun r at end from to
    → (IsTrue b ↔ AreAt ring from (part offset bytes from to)) → IsTrue b ↔ ((k : ℕ) → k < length (part offset bytes from to) → slice_index (part offset bytes from to) k ≡ byte_of ring near pages (from + k))
there_near r ring bytes pages start near offset end at from to b low short begun none here run is = grind (arith, common_steps)

pub there_far : (ring part : List ℕ) (pages : Pages) (near from : ℕ) (b : Bool) → near ≤ from
    → (IsTrue b ↔ ((k : ℕ) → k < length part → slice_index part k ≡ page_byte pages (from + k))) → IsTrue b ↔ ((k : ℕ) → k < length part → slice_index part k ≡ byte_of ring near pages (from + k))
there_far ring part pages near from b past is = grind (arith, nat_tests)

-- ---- What is passed over without a copy is what a read would copy out.

-- the bytes of so many offsets
pub ring_part : (ℕ → ℕ) → ℕ → ℕ → List ℕ
ring_part f from zero = []
ring_part f from (suc n) = f from ∷ ring_part f (from + 1) n

skiplaws_part_len : (f : ℕ → ℕ) (from n : ℕ) → length (ring_part f from n) ≡ n
unfolding ring_part
skiplaws_part_len f from zero = refl
skiplaws_part_len f from (suc n) = ap suc (skiplaws_part_len f (from + 1) n)

skiplaws_part_at : (f : ℕ → ℕ) (from n k : ℕ) → k < n → slice_index (ring_part f from n) k ≡ f (from + k)
unfolding ring_part
skiplaws_part_at f from zero k lt = absurd (omega (arith, lt))
skiplaws_part_at f from (suc n) zero lt = let e : from ≡ from + 0 = omega arith in ap f e
skiplaws_part_at f from (suc n) (suc k) lt = grind (arith, nat_tests, skiplaws_part_at f (from + 1) n k (omega (arith, lt)))

pub front_skipped : (r : NumberSet) (f : ℕ → ℕ) (w from next room n stored : ℕ) → IsRing f r w from stored false → IsLeastMissingFrom r from next → n ≡ min (next - from) room
    → (front (ring_bytes r f from w) from n ≡ ring_part f from n) × (front (ring_bytes r f from w) from room ≡ ring_part f from n) × (length (ring_part f from n) ≡ n)
front_skipped r f w from next room n stored h least is =
    let len = skiplaws_part_len f from n in
    let out_is = front_of_ring r f (ring_part f from n) w from n stored h (came_next r from next room n least is) len (λ k below. skiplaws_part_at f from n k below) in
    let low = least.from in
    let stops = front_stops r f w from n room (omega (arith, is)) (ap length out_is ∙ len) (λ more. let e : from + n ≡ next = omega (arith, low, is, more) in ap (set.contains r) e ∙ least.missing) in
    (out_is, stops ∙ out_is, len)
