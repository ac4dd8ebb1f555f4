-- What the words on stored bytes answer, offset by offset.
--     get-store       the byte of an offset after a put: the new one where it lies in the run and didn't come before
--     get-keep_from   after a read
--     front_has, front_get      a front's offsets have a byte each, which stands there
use Rattle.std.specs.FinMap as map
use Rattle.std.specs.FinSet as set
use borrow.Rule.Slice.PartMut.{put_mid}
use Rattle.std.specs.Prelude.{◌≡◌, ℕ, ◌+◌, ◌-◌, ◌<◌, zero, suc, Bool, true, false, not, cond, if◌then◌else◌, ◌&&◌, ◌||◌, nat_le, nat_eq, max, List, [], ◌∷◌, length, slice_get, Option, None, Some, is_some, refl, ◌⊎◌, ◌≤◌, ◌++◌, take, drop, ◌/◌, ◌^◌, min, slice_index, Result, OnOk, OnErr}
use Rattle.std.proofs.Common.{sym, ◌∙◌, ap, arith, append_assoc, length-drop, zero-add, add-zero, inl, inr}
use Rattle.std.specs.Ordering.{nat_cmp}
use Rattle.std.specs.Cmp.{nat_cmp_total, unsigned_tied}
use Rattle.std.specs.FinMap.{nat_cmp-IsAntisymmetric, same_map}
use Rattle.std.proofs.lemmas.Bool.Decides.{nat_tests}
use Rattle.qs_ranges.specs.Numbers.{NumberSet, numbers, is_within, contains-with_range, end_of, ContainsRange, IsLeastMissingFrom, MissesRange, MAX_VARINT, contains-numbers, covers}
use Rattle.qs_ranges.proofs.Sets.{end_of-with_range, end_of-with_none, with_range-covered, covers-is}
use Rattle.qs_recv.specs.Assembled.{Assembled, store, put, front, front_from, keep_from, front_of, take_front, agrees, same}
use Rattle.qs_recv.specs.Bytes.{byte_at, take_exactly}
use Rattle.std.proofs.lemmas.Grind.{common_steps}
use Rattle.std.proofs.lemmas.List.{take_at, drop_at, drop_all, take_all, drop-drop, length-take, get_or-take, get_or-drop}
use Rattle.qs_recv.specs.Ring.{IsNextGap, IsNextRun, missing_count, IsRing, IsSizeFor, ring_bytes, stored_in_ring}
use Rattle.std.specs.Int.{IsPowerOfTwo}
use Rattle.std.proofs.lemmas.Bool.{both_ways, cases_lt, cases_Bool, and_right, or_left, or_right, ltb-true, false_from_ne_true, and_parts, and_from, eqb-true}
use Rattle.std.proofs.lemmas.Option.{slice_get-get_or, get_or_from_slice_get, slice_get_within}
use Rattle.qs_recv.specs.Lane.{MAX_WINDOW}

-- the n numbers from lo on
abbrev pub is_in_run : ℕ → ℕ → ℕ → Bool
is_in_run q lo n = is_within lo (lo + n) q

-- s and the n numbers from lo on
abbrev pub with_run : NumberSet → ℕ → ℕ → NumberSet
with_run s lo n = set.union s (numbers lo (lo + n))

pub contains-with_run : (s : NumberSet) (lo n q : ℕ) → set.contains (with_run s lo n) q ≡ (set.contains s q || is_in_run q lo n)
contains-with_run s lo n q = contains-with_range s lo (lo + n) q

pub end_of-with_run : (s : NumberSet) (lo n : ℕ) → end_of (with_run s lo n) ≡ cond (nat_eq n 0) (end_of s) (max (end_of s) (lo + n))
end_of-with_run s lo n = grind (arith, nat_tests, end_of-with_range, end_of-with_none)

pub get-insert_nat : (m : map.FinMap nat_cmp ℕ) (k v q : ℕ) → map.get (map.insert m k v) q ≡ cond (nat_eq q k) (Some v) (map.get m q)
get-insert_nat m k v q = map.get-insert nat_cmp_total m k v q ∙ ap (λ b. cond b (Some v) (map.get m q)) (unsigned_tied q k)

pub get-keep_from : (m : map.FinMap nat_cmp ℕ) (at q : ℕ) → map.get (keep_from m at) q ≡ cond (nat_le at q) (map.get m q) None
unfolding keep_from
get-keep_from m at q = map.get-retain_keys m (λ offset. nat_le at offset) q (λ x e. ap (λ offset. nat_le at offset) (sym (nat_cmp-IsAntisymmetric q x e)))

pub byte_at_front : (at q byte : ℕ) (bytes : List ℕ) → q ≡ at → byte_at at (byte ∷ bytes) q ≡ Some byte
byte_at_front at q byte bytes e = grind (arith, nat_tests)

pub byte_at_back : (at q byte : ℕ) (bytes : List ℕ) → at < q → byte_at at (byte ∷ bytes) q ≡ byte_at (at + 1) bytes q
byte_at_back at q byte bytes h = grind (arith, nat_tests)

store_one : (b : Bool) (m : map.FinMap nat_cmp ℕ) (at byte q : ℕ) → map.get (cond b m (map.insert m at byte)) q ≡ cond (not b && nat_eq q at) (Some byte) (map.get m q)
store_one b m at byte q = grind (arith, nat_tests, get-insert_nat)

pub get-store : (r : NumberSet) (m : map.FinMap nat_cmp ℕ) (at : ℕ) (bytes : List ℕ) (q : ℕ)
    → map.get (store r m at bytes) q ≡ cond (is_in_run q at (length bytes) && not (set.contains r q)) (byte_at at bytes q) (map.get m q)
unfolding store
get-store r m at [] q = grind (arith, nat_tests)
get-store r m at (byte ∷ bytes) q = grind (arith, nat_tests, get-store r (if set.contains r at then m else map.insert m at byte) (at + 1) bytes q, store_one, byte_at_front)

front_has_at : (m : map.FinMap nat_cmp ℕ) (at : ℕ) (rest : List ℕ) (o : Option ℕ) → map.get m at ≡ o
    → ((j : ℕ) → j < length rest → map.get m (at + 1 + j) ≡ slice_get rest j)
    → (k : ℕ) → k < length (front_from o rest) → map.get m (at + k) ≡ slice_get (front_from o rest) k
front_has_at m at rest o e later k h = grind (arith, nat_tests)

-- the offsets of a front have its bytes
pub front_has : (m : map.FinMap nat_cmp ℕ) (at size k : ℕ) → k < length (front m at size) → map.get m (at + k) ≡ slice_get (front m at size) k
unfolding front
front_has m at zero k h = absurd (omega arith)
front_has m at (suc size) k h = front_has_at m at (front m (at + 1) size) (map.get m at) refl (front_has m (at + 1) size) k h

is_some-kept : (b : Bool) (x : Option ℕ) → is_some (cond b x None) ≡ true → is_some x ≡ true
is_some-kept b x h = grind (arith, nat_tests)

-- an offset that is stored after a put was stored before or lies in the run
pub stored_by_put : (r : NumberSet) (m : map.FinMap nat_cmp ℕ) (at : ℕ) (bytes : List ℕ) (q : ℕ)
    → map.contains_key (store r m at bytes) q ≡ true → (is_in_run q at (length bytes) ≡ true) ⊎ (map.contains_key m q ≡ true)
stored_by_put r m at bytes q h = grind (arith, nat_tests, get-store)

pub stored_by_keep : (m : map.FinMap nat_cmp ℕ) (at q : ℕ) → map.contains_key (keep_from m at) q ≡ true → map.contains_key m q ≡ true
stored_by_keep m at q h = is_some-kept (nat_le at q) (map.get m q) (sym (ap is_some (get-keep_from m at q)) ∙ h)

is_some-slice_get : (xs : List ℕ) (k : ℕ) → k < length xs → is_some (slice_get xs k) ≡ true
is_some-slice_get [] k h = absurd (omega arith)
is_some-slice_get (x ∷ xs) zero h = refl
is_some-slice_get (x ∷ xs) (suc k) h = is_some-slice_get xs k (omega arith)

pub front_stored : (m : map.FinMap nat_cmp ℕ) (at size k : ℕ) → k < length (front m at size) → map.contains_key m (at + k) ≡ true
front_stored m at size k h = ap is_some (front_has m at size k h) ∙ is_some-slice_get (front m at size) k h

-- what a put leaves, where bytes are stored
pub put_is : (a : Assembled) (offset : ℕ) (bytes : List ℕ) (m : map.FinMap nat_cmp ℕ) (r : NumberSet) → a.discarding ≡ false
    → m ≡ store a.received a.stored offset bytes → r ≡ with_run a.received offset (length bytes) → record a { stored = m; received = r } ≡ put a offset bytes
put_is a offset bytes m r on stored received = grind (arith, nat_tests)

-- ---- What a read gives, and what it leaves.
--     front_..      the bytes that are next, and those of two reads, one after the other
--     take_nothing, take_done      a read of nothing, and one of all that is next

pub append_nil : (xs : List ℕ) → xs ++ [] ≡ xs
append_nil xs = grind (arith, common_steps)

pub front_zero : (m : map.FinMap nat_cmp ℕ) (at : ℕ) → front m at 0 ≡ []
unfolding front
front_zero m at = refl

pub front_none : (m : map.FinMap nat_cmp ℕ) (at size : ℕ) → map.get m at ≡ None → front m at size ≡ []
unfolding front
front_none m at size h = grind (arith, nat_tests)

-- the first bytes of a map that has given bytes from an offset on
pub front_of_bytes : (m : map.FinMap nat_cmp ℕ) (n at : ℕ) (bytes : List ℕ) → n ≤ length bytes
    → ((k : ℕ) → k < n → map.get m (at + k) ≡ slice_get bytes k) → front m at n ≡ take n bytes
unfolding front
front_of_bytes m zero at bytes h is = refl
front_of_bytes m (suc n) at [] h is = absurd (omega arith)
front_of_bytes m (suc n) at (byte ∷ bytes) h is =
    let z : at + 0 ≡ at = omega arith in
    let here : map.get m at ≡ Some byte = ap (map.get m) (sym z) ∙ is 0 (omega arith) in
    let later : front m (at + 1) n ≡ take n bytes = grind (arith, nat_tests, front_of_bytes m n (at + 1) bytes (omega arith) (λ k b. let e : at + 1 + k ≡ at + suc k = omega arith in ap (map.get m) e ∙ is (suc k) (omega arith))) in
    ap (λ o. front_from o (front m (at + 1) n)) here ∙ ap (λ bs. byte ∷ bs) later

front_step : (o : Option ℕ) (xs ys zs : List ℕ) (n : ℕ) → length (front_from o xs) ≡ suc n → (length xs ≡ n → zs ≡ xs ++ ys) → front_from o zs ≡ front_from o xs ++ ys
front_step o xs ys zs n full is = grind (arith, nat_tests)

pub front-more : (m : map.FinMap nat_cmp ℕ) (a at b : ℕ) → length (front m at a) ≡ a → front m at (a + b) ≡ front m at a ++ front m (at + a) b
unfolding front
front-more m zero at b full = ap (λ n. front m at n) (zero-add b) ∙ ap (λ i. front m i b) (sym (add-zero at))
front-more m (suc a) at b full =
    let e : suc a + b ≡ suc (a + b) = omega arith in
    let f : at + 1 + a ≡ at + suc a = omega arith in
    ap (front m at) e
    ∙ front_step (map.get m at) (front m (at + 1) a) (front m (at + 1 + a) b) (front m (at + 1) (a + b)) a full (λ len. front-more m a (at + 1) b len)
    ∙ ap (λ i. front_from (map.get m at) (front m (at + 1) a) ++ front m i b) f

pub take_nothing : (a : Assembled) → keep_from a.stored a.read_count ≡ a.stored → a ≡ take_exactly a 0
take_nothing a tidy = grind (arith, nat_tests)

-- what is written into the rest of a slice
pub rest_written : (into0 into f1 f2 new : List ℕ) (d k : ℕ) → into ≡ f1 ++ drop d into0 → length f1 ≡ d → d ≤ length into
    → new ≡ f2 ++ drop k (take (length into - d) (drop d into))
    → put_mid d (length into - d) into new ≡ f1 ++ f2 ++ drop (d + k) into0
rest_written into0 into f1 f2 new d k out len h is = grind (arith, nat_tests, length-drop, take_at, drop_at, take_all, drop_all, drop-drop, append_nil, append_assoc)

pub take_done : (a : Assembled) (d n : ℕ) → length (front_of a d) ≡ d → front_of a n ≡ front_of a d → take_exactly a d ≡ take_front a n
take_done a d n full same = grind (arith, nat_tests)

-- ---- How many offsets of a range didn't come.
--     missing_parts      of two ranges, one behind the other
--     missing_all, missing_none      where none came, and where all did
--     missing_same       in two sets that agree there
--     run_behind, least_of       what a search for the next gap tells

pub missing_zero : (r : NumberSet) (from : ℕ) → missing_count r from 0 ≡ 0
unfolding missing_count
missing_zero r from = refl

pub missing_small : (r : NumberSet) (from n : ℕ) → missing_count r from n ≤ n
unfolding missing_count
missing_small r from zero = omega arith
missing_small r from (suc n) = grind (arith, nat_tests, missing_small r from n)

pub missing_parts : (r : NumberSet) (from m n : ℕ) → missing_count r from (m + n) ≡ missing_count r from m + missing_count r (from + m) n
unfolding missing_count
missing_parts r from m zero = let e : m + 0 ≡ m = omega arith in ap (missing_count r from) e ∙ (let z : missing_count r from m ≡ missing_count r from m + 0 = omega arith in z)
missing_parts r from m (suc n) =
    let e : m + suc n ≡ suc (m + n) = omega arith in
    let at : from + (m + n) ≡ from + m + n = omega arith in
    grind (arith, nat_tests, missing_parts r from m n)

pub missing_all : (r : NumberSet) (from n : ℕ) → MissesRange r from (from + n) → missing_count r from n ≡ n
unfolding missing_count
missing_all r from zero none = refl
missing_all r from (suc n) none = grind (arith, nat_tests, missing_all r from n (λ q low high. none q low (omega arith)))

pub missing_none : (r : NumberSet) (from n : ℕ) → ContainsRange r from (from + n) → missing_count r from n ≡ 0
unfolding missing_count
missing_none r from zero all = refl
missing_none r from (suc n) all = grind (arith, nat_tests, missing_none r from n (λ q low high. all q low (omega arith)))

pub missing_same : (r s : NumberSet) (from n : ℕ) → ((q : ℕ) → from ≤ q → q < from + n → set.contains r q ≡ set.contains s q) → missing_count r from n ≡ missing_count s from n
unfolding missing_count
missing_same r s from zero is = refl
missing_same r s from (suc n) is = grind (arith, nat_tests, missing_same r s from n (λ q low high. is q low (omega arith)))

-- a gap, and what came up to the next one
pub run_behind : (r : NumberSet) (at end stop next after : ℕ) → at < stop → stop ≤ end → MissesRange r at stop → IsNextGap r stop end next after → IsNextRun r at end stop next
run_behind r at end stop next after some within none g = grind (arith, nat_tests)

-- the first offset that didn't come
pub least_of : (r : NumberSet) (at end from to : ℕ) → IsNextGap r at end from to → from < end → IsLeastMissingFrom r at from
least_of r at end from to g below = record { from = g.begins; missing = g.missing from (omega arith) (g.some below); all_before = g.came }

-- past a gap, and what came behind it
pub missing_gap : (r : NumberSet) (first at end stop next : ℕ) → first ≤ at → set.contains r at ≡ false → IsNextRun r at end stop next → missing_count r first (at - first) + (stop - at) ≡ missing_count r first (next - first)
missing_gap r first at end stop next low none g =
    let e : next - first ≡ (at - first) + ((stop - at) + (next - stop)) = omega arith in
    let a : first + (at - first) ≡ at = omega arith in
    let b : at + (stop - at) ≡ stop = omega arith in
    let c : stop + (next - stop) ≡ next = omega arith in
    let whole = ap (missing_count r first) e ∙ missing_parts r first (at - first) ((stop - at) + (next - stop)) in
    let later = ap (λ k. missing_count r k ((stop - at) + (next - stop))) a ∙ missing_parts r at (stop - at) (next - stop) in
    let gap = missing_all r at (stop - at) (rw b g.missing) in
    let came = ap (λ k. missing_count r k (next - stop)) b ∙ missing_none r stop (next - stop) (rw c g.came) in
    omega (arith, whole, later, gap, came)

-- ---- What a ring answers, offset by offset, and that a put and a read do to it what they do to the map.
--     get-ring, len-ring       the map that a ring stands for
--     new_ring, ring_at_rest, ring_read, ring_put, ..       what holds of the fields still holds
--     front_next, ring_advanced       what a read copies out and leaves
--     IsPut, put_stored       what is kept before a put and after it, and what it stores
--     same_bytes, same_ring       only the bytes at offsets that came show

-- the map

ring_one : (b : Bool) (m : map.FinMap nat_cmp ℕ) (k v q : ℕ) → map.get (cond b (map.insert m k v) m) q ≡ cond (b && nat_eq q k) (Some v) (map.get m q)
ring_one b m k v q = grind (arith, nat_tests, get-insert_nat)

pub get-ring : (r : NumberSet) (f : ℕ → ℕ) (w from n q : ℕ)
    → map.get (ring_bytes r f from n) q ≡ cond (is_in_run q from n && set.contains r q) (Some (f q)) None
unfolding ring_bytes
get-ring r f w from zero q = map.get-empty nat_cmp q ∙ sym (ap (λ b. cond (b && set.contains r q) (Some (f q)) None) (let e : is_in_run q from 0 ≡ false = grind (arith, nat_tests) in e))
get-ring r f w from (suc n) q = grind (arith, nat_tests, get-ring r f w from n q, ring_one)

-- each offset is stored or missing
pub len-ring : (r : NumberSet) (f : ℕ → ℕ) (w from n : ℕ) → map.len (ring_bytes r f from n) + missing_count r from n ≡ n
unfolding ring_bytes missing_count
len-ring r f w from zero = let e = map.len-empty nat_cmp ℕ in omega (arith, e)
len-ring r f w from (suc n) =
    let out : is_in_run (from + n) from n ≡ false = grind (arith, nat_tests) in
    let none : map.contains_key (ring_bytes r f from n) (from + n) ≡ false = grind (arith, nat_tests, get-ring) in
    let more : map.len (map.insert (ring_bytes r f from n) (from + n) (f (from + n))) ≡ map.len (ring_bytes r f from n) + 1 =
    map.len-insert nat_cmp_total (ring_bytes r f from n) (from + n) (f (from + n)) ∙ ap (λ b. cond b (map.len (ring_bytes r f from n)) (map.len (ring_bytes r f from n) + 1)) none in
    one (set.contains r (from + n)) (ring_bytes r f from n) (map.insert (ring_bytes r f from n) (from + n) (f (from + n))) (missing_count r from n) more (len-ring r f w from n)
  where
    one : (b : Bool) (m m' : map.FinMap nat_cmp ℕ) (k : ℕ) → map.len m' ≡ map.len m + 1 → map.len m + k ≡ n → map.len (cond b m' m) + cond b k (k + 1) ≡ suc n
    one true m m' k more is = omega (arith, more, is)
    one false m m' k more is = omega (arith, is)

-- A new ring, and one that was thrown away

pub empty_ring : (f : ℕ → ℕ) (w from n : ℕ) → ring_bytes set.empty f from n ≡ map.empty
empty_ring f w from n =
    same_map nat_cmp_total nat_cmp-IsAntisymmetric _ _ (λ q.
    get-ring set.empty f w from n q
    ∙ ap (λ b. cond b (Some (f q)) None) (and_right (is_in_run q from n) (set.contains set.empty q) (set.contains-empty nat_cmp q))
    ∙ sym (map.get-empty nat_cmp q))

pub new_ring : (f : ℕ → ℕ) (w : ℕ) → w ≤ MAX_WINDOW → IsRing f set.empty w 0 0 false
new_ring f w small =
    record {
      small_window = small;
      small_count = omega arith;
      read_came = λ q below. absurd (omega arith);
      came_within = λ _ q came. absurd (both_ways _ (set.contains-empty nat_cmp q) came);
      counted = sym (ap map.len (empty_ring f w 0 w) ∙ map.len-empty nat_cmp ℕ);
    }

pub thrown_away : (f g : ℕ → ℕ) (r : NumberSet) (w from stored : ℕ) (off : Bool) → IsRing f r w from stored off → IsRing g r w from 0 true
thrown_away f g r w from stored off h =
    record {
      small_window = h.small_window;
      small_count = h.small_count;
      read_came = h.read_came;
      came_within = λ on. absurd (both_ways true on refl);
      counted = sym (map.len-empty nat_cmp ℕ);
    }

-- A ring at rest

pub nothing_in_ring : (r : NumberSet) (f : ℕ → ℕ) (w from : ℕ) (off : Bool) → (off ≡ false → (q : ℕ) → from ≤ q → set.contains r q ≡ false) → stored_in_ring r f w from off ≡ map.empty
nothing_in_ring r f w from true none = refl
nothing_in_ring r f w from false none =
    same_map nat_cmp_total nat_cmp-IsAntisymmetric _ _ (λ q.
    get-ring r f w from w q
    ∙ elim (cases_lt q from) [
      | inl below ↦ (let t : is_in_run q from w ≡ false = grind (arith, nat_tests) in ap (λ b. cond (b && set.contains r q) (Some (f q)) None) t)
      | inr past ↦ ap (λ b. cond b (Some (f q)) None) (and_right (is_in_run q from w) (set.contains r q) (none refl q past))
    ]
    ∙ sym (map.get-empty nat_cmp q))

none_at_rest : (from end : ℕ) (off : Bool) → (off ≡ false → from ≡ end) → off ≡ false → (q : ℕ) → from ≤ q → set.contains (numbers 0 end) q ≡ false
none_at_rest from end off all_read on q past = let all = all_read on in contains-numbers 0 end q ∙ grind (arith, nat_tests)

pub ring_at_rest : (f : ℕ → ℕ) (w from end : ℕ) (off : Bool) → w ≤ MAX_WINDOW → end ≤ MAX_VARINT → from ≤ end → (off ≡ false → from ≡ end) → IsRing f (numbers 0 end) w from 0 off
ring_at_rest f w from end off wide small came all_read =
    record {
      small_window = wide;
      small_count = omega arith;
      read_came = λ q below. contains-numbers 0 end q ∙ grind (arith, nat_tests);
      came_within = λ on q is. let all = all_read on in let within : is_within 0 end q ≡ true = sym (contains-numbers 0 end q) ∙ is in grind (arith, nat_tests);
      counted = sym (ap map.len (nothing_in_ring (numbers 0 end) f w from off (none_at_rest from end off all_read)) ∙ map.len-empty nat_cmp ℕ);
    }

pub view_at_rest : (f : ℕ → ℕ) (w from end : ℕ) (off : Bool) → (off ≡ false → from ≡ end) → stored_in_ring (numbers 0 end) f w from off ≡ map.empty
view_at_rest f w from end off all_read = nothing_in_ring (numbers 0 end) f w from off (none_at_rest from end off all_read)

-- A wider window

pub ring_wider : (r : NumberSet) (f : ℕ → ℕ) (w v from : ℕ) → w ≤ v → ((q : ℕ) → set.contains r q ≡ true → q < from + w) → ring_bytes r f from v ≡ ring_bytes r f from w
ring_wider r f w v from le within =
    same_map nat_cmp_total nat_cmp-IsAntisymmetric _ _ (λ q. get-ring r f v from v q ∙ by_came q (set.contains r q) refl ∙ sym (get-ring r f w from w q))
  where
    by_came : (q : ℕ) (came : Bool) → set.contains r q ≡ came → cond (is_in_run q from v && set.contains r q) (Some (f q)) None ≡ cond (is_in_run q from w && set.contains r q) (Some (f q)) None
    by_came q true is = grind (arith, nat_tests)
    by_came q false is = grind (arith, nat_tests)

pub view_wider : (r : NumberSet) (f : ℕ → ℕ) (w v from stored : ℕ) (off : Bool) → w ≤ v → IsRing f r w from stored off → stored_in_ring r f v from off ≡ stored_in_ring r f w from off
view_wider r f w v from stored off le h = grind (arith, nat_tests, ring_wider)

pub widened_ring : (r : NumberSet) (f : ℕ → ℕ) (w v from stored : ℕ) (off : Bool) → w ≤ v → v ≤ MAX_WINDOW → IsRing f r w from stored off → IsRing f r v from stored off
widened_ring r f w v from stored off le small h =
    record {
      small_window = small;
      small_count = h.small_count;
      read_came = h.read_came;
      came_within = λ on q came. (let below = h.came_within on q came in omega (arith, below, le));
      counted = h.counted ∙ ap map.len (sym (view_wider r f w v from stored off le h));
    }

-- A read

-- what is next lies within the window
pub next_within : (r : NumberSet) (f : ℕ → ℕ) (w from n stored : ℕ) → IsRing f r w from stored false → ContainsRange r from (from + n) → n ≤ w
next_within r f w from n stored h came = grind (arith, nat_tests)

-- and is stored
pub next_stored : (r : NumberSet) (f : ℕ → ℕ) (w from n stored : ℕ) → IsRing f r w from stored false → ContainsRange r from (from + n) → n ≤ stored
next_stored r f w from n stored h came =
    let within = next_within r f w from n stored h came in
    let all = len-ring r f w from w in
    let e : w ≡ n + (w - n) = omega (arith, within) in
    let parts = ap (missing_count r from) e ∙ missing_parts r from n (w - n) in
    let none = missing_none r from n came in
    let small = missing_small r (from + n) (w - n) in
    let counted = h.counted in
    omega (arith, within, all, parts, none, small, counted)

pub ring_read : (r : NumberSet) (f : ℕ → ℕ) (w from n stored : ℕ) → IsRing f r w from stored false → ContainsRange r from (from + n) → from + n ≤ 2 ^ 62
    → IsRing f r w (from + n) (stored - n) false
ring_read r f w from n stored h came small =
    record {
      small_window = h.small_window;
      small_count = small;
      read_came = λ q below. elim (cases_lt q from) [ inl old ↦ h.read_came q old | inr new ↦ came q new below ];
      came_within = λ on q is. (let b = h.came_within on q is in omega (arith, b));
      counted =
          let before = len-ring r f w from w in
          let after = len-ring r f w (from + n) w in
          let swap : w + n ≡ n + w = omega arith in
          let behind = missing_parts r from w n in
          let front = ap (missing_count r from) swap ∙ missing_parts r from n w in
          let none = missing_none r from n came in
          let past = missing_all r (from + w) n (λ q low _. false_from_ne_true (set.contains r q) (λ is. let b = h.came_within refl q is in absurd (omega (arith, b)))) in
          let counted = h.counted in
          omega (arith, before, after, behind, front, none, past, counted);
    }

ring_has : (r : NumberSet) (f : ℕ → ℕ) (w from k : ℕ) → k < w → set.contains r (from + k) ≡ true
    → map.get (ring_bytes r f from w) (from + k) ≡ Some (f (from + k))
ring_has r f w from k h came = grind (arith, nat_tests, get-ring)

ring_lacks : (r : NumberSet) (f : ℕ → ℕ) (w from q : ℕ) → set.contains r q ≡ false → map.get (ring_bytes r f from w) q ≡ None
ring_lacks r f w from q new = get-ring r f w from w q ∙ ap (λ t. cond t (Some (f q)) None) (and_right (is_in_run q from w) (set.contains r q) new)

pub ring_advanced : (r : NumberSet) (f : ℕ → ℕ) (w from n stored : ℕ) → IsRing f r w from stored false
    → keep_from (ring_bytes r f from w) (from + n) ≡ ring_bytes r f (from + n) w
ring_advanced r f w from n stored h =
    same_map nat_cmp_total nat_cmp-IsAntisymmetric _ _ (λ q.
    let left = get-keep_from (ring_bytes r f from w) (from + n) q in
    let before = get-ring r f w from w q in
    let right = get-ring r f w (from + n) w q in
    elim (cases_Bool (set.contains r q)) [
      | inl old ↦ let high : q < from + w = h.came_within refl q old in grind (arith, nat_tests)
      | inr new ↦ grind (arith, nat_tests)
    ])

-- what a read copies out
pub front_of_ring : (r : NumberSet) (f : ℕ → ℕ) (out : List ℕ) (w from n stored : ℕ) → IsRing f r w from stored false → ContainsRange r from (from + n) → length out ≡ n
    → ((k : ℕ) → k < n → slice_index out k ≡ f (from + k))
    → front (ring_bytes r f from w) from n ≡ out
front_of_ring r f out w from n stored h came len copied =
    let within = next_within r f w from n stored h came in
    front_of_bytes (ring_bytes r f from w) n from out (omega (arith, len)) (λ k below.
    ring_has r f w from k (omega (arith, within)) (came (from + k) (omega arith) (omega arith))
    ∙ ap (λ v. Some v) (sym (copied k below)) ∙ sym (slice_get-get_or out k 0 (omega (arith, len))))
    ∙ take_all n out (omega (arith, len))

-- a read stops where the next offset isn't there
pub front_stops : (r : NumberSet) (f : ℕ → ℕ) (w from n room : ℕ) → n ≤ room → length (front (ring_bytes r f from w) from n) ≡ n → (n < room → set.contains r (from + n) ≡ false)
    → front (ring_bytes r f from w) from room ≡ front (ring_bytes r f from w) from n
front_stops r f w from n room h full none =
    let m = ring_bytes r f from w in
    elim (cases_lt n room) [
      | inl more ↦
          let e : room ≡ n + (room - n) = omega arith in
          ap (front m from) e ∙ front-more m n from (room - n) full
          ∙ ap (λ xs. front m from n ++ xs) (front_none m (from + n) (room - n) (ring_lacks r f w from (from + n) (none more))) ∙ append_nil (front m from n)
      | inr whole ↦ let e : room ≡ n = omega arith in ap (front m from) e
    ]

-- so many bytes are read: up to the next offset that isn't there, as far as there is room
pub came_next : (r : NumberSet) (from next room n : ℕ) → IsLeastMissingFrom r from next → n ≡ min (next - from) room → ContainsRange r from (from + n)
came_next r from next room n least is q low high = let f = least.from in least.all_before q low (omega (arith, f))

pub front_next : (r : NumberSet) (f : ℕ → ℕ) (into out : List ℕ) (w from next n stored : ℕ) → IsRing f r w from stored false → IsLeastMissingFrom r from next → n ≡ min (next - from) (length into)
    → length out ≡ length (take n into) → ((k : ℕ) → k < length (take n into) → slice_index out k ≡ f (from + k))
    → (front (ring_bytes r f from w) from n ≡ out) × (front (ring_bytes r f from w) from (length into) ≡ out) × (length out ≡ n)
front_next r f into out w from next n stored h least is same copied =
    let part : length (take n into) ≡ n = simp length-take (omega (arith, is)) in
    let len : length out ≡ n = same ∙ part in
    let out_is = front_of_ring r f out w from n stored h (came_next r from next (length into) n least is) len (λ k below. copied k (omega (arith, part))) in
    let low = least.from in
    let stops = front_stops r f w from n (length into) (omega arith) (ap length out_is ∙ len) (λ more. let e : from + n ≡ next = omega (arith, low) in ap (set.contains r) e ∙ least.missing) in
    (out_is, stops ∙ out_is, len)

pub empty_front : (from room : ℕ) → front map.empty from room ≡ []
empty_front from room = front_none map.empty from room (map.get-empty nat_cmp from)

empty_kept : (from : ℕ) → keep_from map.empty from ≡ map.empty
empty_kept from =
    same_map nat_cmp_total nat_cmp-IsAntisymmetric _ _ (λ q.
    get-keep_from map.empty from q ∙ ap (λ o. cond (nat_le from q) o None) (map.get-empty nat_cmp q) ∙ none (nat_le from q) ∙ sym (map.get-empty nat_cmp q))
  where
    none : (b : Bool) → cond {A = Option ℕ} b None None ≡ None
    none true = refl
    none false = refl

pub nothing_taken : (r : NumberSet) (from w room : ℕ) (off : Bool)
    → (let a : Assembled = record { stored = map.empty; received = r; read_count = from; widest = w; discarding = off } in a ≡ take_front a room)
nothing_taken r from w room off = grind (arith, nat_tests, empty_kept, empty_front)

-- A put of known bytes, or of none

store_known : (r : NumberSet) (m : map.FinMap nat_cmp ℕ) (offset : ℕ) (bytes : List ℕ) → ContainsRange r offset (offset + length bytes) → store r m offset bytes ≡ m
store_known r m offset bytes all =
    same_map nat_cmp_total nat_cmp-IsAntisymmetric _ _ (λ q.
    get-store r m offset bytes q
    ∙ ap (λ b. cond b (byte_at offset bytes q) (map.get m q)) (known (is_in_run q offset (length bytes)) (set.contains r q) (λ run. all q (run_low q offset (length bytes) run) (run_high q offset (length bytes) run))))
  where
    known : (i b : Bool) → (i ≡ true → b ≡ true) → (i && not b) ≡ false
    known false b f = refl
    known true b f = ap not (f refl)

    run_low : (q lo n : ℕ) → is_in_run q lo n ≡ true → lo ≤ q
    run_low q lo n run = grind (arith, nat_tests)

    run_high : (q lo n : ℕ) → is_in_run q lo n ≡ true → q < lo + n
    run_high q lo n run = grind (arith, nat_tests)

pub put_known : (a : Assembled) (offset : ℕ) (bytes : List ℕ) → ContainsRange a.received offset (offset + length bytes) → a ≡ put a offset bytes
put_known a offset bytes all = grind (arith, nat_tests, with_range-covered, store_known)

-- where nothing is missing before an offset that is read or came
pub all_known : (r : NumberSet) (f : ℕ → ℕ) (w from stored offset end first : ℕ) (off : Bool) → IsRing f r w from stored off → ContainsRange r (max offset from) first → end ≤ first → ContainsRange r offset end
all_known r f w from stored offset end first off h came past q low high = grind (arith, nat_tests)

-- A put where one byte is new

pub gap_news : (r : NumberSet) (offset from end first : ℕ) → IsLeastMissingFrom r (max offset from) first → first < end → covers r offset end ≡ false
gap_news r offset from end first least below = grind (arith, nat_tests, covers-is)

byte_some : (offset : ℕ) (bytes : List ℕ) (q : ℕ) → is_in_run q offset (length bytes) ≡ true → byte_at offset bytes q ≡ Some (slice_index bytes (q - offset))
byte_some offset bytes q run = grind (arith, nat_tests, slice_get-get_or)

-- what is kept after a put, and before it
pub record IsPut (r : NumberSet) (w from stored offset first : ℕ) (bytes : List ℕ) (f g : ℕ → ℕ) : Type 0 where
  pub was : IsRing f r w from stored false
  pub least : IsLeastMissingFrom r (max offset from) first
  pub some : first < offset + length bytes
  pub fits : offset + length bytes ≤ from + w
  pub same : (q : ℕ) → from ≤ q → set.contains r q ≡ true → g q ≡ f q
  pub new : (q : ℕ) → first ≤ q → q < offset + length bytes → set.contains r q ≡ false → g q ≡ slice_index bytes (q - offset)

place_new : (r : NumberSet) (w from stored offset first q : ℕ) (bytes : List ℕ) (f g : ℕ → ℕ) → IsPut r w from stored offset first bytes f g → from ≤ q → set.contains r q ≡ false
    → is_in_run q offset (length bytes) ≡ true → g q ≡ slice_index bytes (q - offset)
place_new r w from stored offset first q bytes f g p low none run = grind (arith, nat_tests)

-- bytes that are the same at the offsets that came
pub same_bytes : (r : NumberSet) (f g : ℕ → ℕ) (w from : ℕ) → ((q : ℕ) → from ≤ q → set.contains r q ≡ true → g q ≡ f q) → ring_bytes r g from w ≡ ring_bytes r f from w
same_bytes r f g w from same =
    same_map nat_cmp_total nat_cmp-IsAntisymmetric _ _ (λ q.
    let left = get-ring r g w from w q in
    let right = get-ring r f w from w q in
    elim (cases_lt q from) [
      | inl below ↦ grind (arith, nat_tests)
      | inr low ↦ elim (cases_Bool (set.contains r q)) [
        | inl old ↦ left ∙ ap (λ v. cond (is_in_run q from w && set.contains r q) (Some v) None) (same q low old) ∙ sym right
        | inr none ↦ grind (arith, nat_tests)
      ]
    ])

pub same_ring : (r : NumberSet) (f g : ℕ → ℕ) (w from stored : ℕ) → IsRing f r w from stored false → ((q : ℕ) → from ≤ q → set.contains r q ≡ true → g q ≡ f q) → IsRing g r w from stored false
same_ring r f g w from stored h same = grind (arith, nat_tests, same_bytes)

pub put_stored : (r : NumberSet) (w from stored offset first : ℕ) (bytes : List ℕ) (f g : ℕ → ℕ) → IsPut r w from stored offset first bytes f g
    → ring_bytes (with_run r offset (length bytes)) g from w ≡ store r (ring_bytes r f from w) offset bytes
put_stored r w from stored offset first bytes f g p =
    same_map nat_cmp_total nat_cmp-IsAntisymmetric _ _ (λ q.
    let left = get-ring (with_run r offset (length bytes)) g w from w q in
    let right = get-store r (ring_bytes r f from w) offset bytes q in
    let before = get-ring r f w from w q in
    let came = contains-with_run r offset (length bytes) q in
    let fits = p.fits in
    elim (cases_lt q from) [
      | inl below ↦ let c = p.was.read_came q below in grind (arith, nat_tests)
      | inr low ↦ elim (cases_lt q (from + w)) [
        | inl high ↦
            let window : is_in_run q from w ≡ true = grind (arith, nat_tests) in
            elim (cases_Bool (set.contains r q)) [
              | inl old ↦ let is = p.same q low old in grind (arith, nat_tests)
              | inr none ↦ elim (cases_Bool (is_in_run q offset (length bytes))) [
                | inl run ↦
                    let is = place_new r w from stored offset first q bytes f g p low none run in
                    let b = byte_some offset bytes q run in
                    left
                    ∙ ap (λ t. cond t (Some (g q)) None) (ap (λ t. t && set.contains (with_run r offset (length bytes)) q) window ∙ came ∙ or_right (set.contains r q) (is_in_run q offset (length bytes)) run)
                    ∙ ap (λ v. Some v) is ∙ sym b
                    ∙ sym (right ∙ ap (λ t. cond (t && not (set.contains r q)) (byte_at offset bytes q) (map.get (ring_bytes r f from w) q)) run
                    ∙ ap (λ t. cond (not t) (byte_at offset bytes q) (map.get (ring_bytes r f from w) q)) none)
                | inr out ↦ grind (arith, nat_tests)
              ]
            ]
        | inr past ↦ grind (arith, nat_tests)
      ]
    ])

-- how many bytes are stored more
put_counted : (r : NumberSet) (w from stored offset first : ℕ) (bytes : List ℕ) (f g : ℕ → ℕ) → IsPut r w from stored offset first bytes f g
    → missing_count r from w ≡ missing_count (with_run r offset (length bytes)) from w + missing_count r first (offset + length bytes - first)
put_counted r w from stored offset first bytes f g p =
    let s = with_run r offset (length bytes) in
    let end = offset + length bytes in
    let least = p.least.from in
    let some = p.some in
    let fits = p.fits in
    let e : w ≡ (first - from) + ((end - first) + (from + w - end)) = omega (arith, least, some, fits) in
    let a : from + (first - from) ≡ first = omega (arith, least) in
    let b : first + (end - first) ≡ end = omega (arith, some) in
    let old = ap (missing_count r from) e ∙ missing_parts r from (first - from) ((end - first) + (from + w - end)) in
    let old_later = ap (λ k. missing_count r k ((end - first) + (from + w - end))) a ∙ missing_parts r first (end - first) (from + w - end) in
    let old_last = ap (λ k. missing_count r k (from + w - end)) b in
    let all = ap (missing_count s from) e ∙ missing_parts s from (first - from) ((end - first) + (from + w - end)) in
    let all_later = ap (λ k. missing_count s k ((end - first) + (from + w - end))) a ∙ missing_parts s first (end - first) (from + w - end) in
    let all_last = ap (λ k. missing_count s k (from + w - end)) b in
    let before = missing_same r s from (first - from) (λ q low high.
    old_first (set.contains r q) (is_in_run q offset (length bytes)) (λ run. p.least.all_before q (start_low q run low) (omega arith)) ∙ sym (contains-with_run r offset (length bytes) q)) in
    let gaps = missing_none s first (end - first) (λ q low high. contains-with_run r offset (length bytes) q ∙ or_right (set.contains r q) (is_in_run q offset (length bytes)) (grind (arith, nat_tests))) in
    let behind = missing_same r s end (from + w - end) (λ q low high.
    let out : is_in_run q offset (length bytes) ≡ false = grind (arith, nat_tests) in
    old_first (set.contains r q) (is_in_run q offset (length bytes)) (λ run. absurd (both_ways _ out run)) ∙ sym (contains-with_run r offset (length bytes) q)) in
    omega (arith, old, old_later, old_last, all, all_later, all_last, before, gaps, behind)
  where
    old_first : (b i : Bool) → (i ≡ true → b ≡ true) → b ≡ (b || i)
    old_first true i f = refl
    old_first false true f = f refl
    old_first false false f = refl

    start_low : (q : ℕ) → is_in_run q offset (length bytes) ≡ true → from ≤ q → max offset from ≤ q
    start_low q run low = grind (arith, nat_tests)

pub ring_put : (r : NumberSet) (w from stored offset first count : ℕ) (bytes : List ℕ) (f g : ℕ → ℕ) → IsPut r w from stored offset first bytes f g
    → count ≡ missing_count r first (offset + length bytes - first) → IsRing g (with_run r offset (length bytes)) w from (stored + count) false
ring_put r w from stored offset first count bytes f g p is =
    let s = with_run r offset (length bytes) in
    let fits = p.fits in
    record {
      small_window = p.was.small_window;
      small_count = p.was.small_count;
      read_came = λ q below. contains-with_run r offset (length bytes) q ∙ or_left (set.contains r q) (is_in_run q offset (length bytes)) (p.was.read_came q below);
      came_within = grind (arith, nat_tests, contains-with_run, ltb-true);
      counted =
          let before = len-ring r f w from w in
          let after = len-ring s g w from w in
          let counts = put_counted r w from stored offset first bytes f g p in
          let counted = p.was.counted in
          omega (arith, before, after, counts, counted, is);
    }

pub stored_within : (r : NumberSet) (f : ℕ → ℕ) (w from stored : ℕ) → IsRing f r w from stored false → stored ≤ w
stored_within r f w from stored h = let all = len-ring r f w from w in let counted = h.counted in omega (arith, all, counted)

-- the count of what is stored after a put
pub put_fits : (r : NumberSet) (w from stored offset first count : ℕ) (bytes : List ℕ) (f g : ℕ → ℕ) → IsPut r w from stored offset first bytes f g → count ≡ missing_count r first (offset + length bytes - first) → stored + count ≤ MAX_WINDOW
put_fits r w from stored offset first count bytes f g p is =
    let noted = ring_put r w from stored offset first count bytes f g p is in
    let small = noted.small_window in
    let within = stored_within _ g w from (stored + count) noted in
    omega (arith, small, within)

-- what an assembly holds after a put
pub put_ring : (r : NumberSet) (w from stored offset first : ℕ) (bytes : List ℕ) (f g : ℕ → ℕ) → IsPut r w from stored offset first bytes f g
    → (let a : Assembled = record { stored = ring_bytes r f from w; received = r; read_count = from; widest = w; discarding = false } in
    record a { stored = ring_bytes (with_run r offset (length bytes)) g from w; received = with_run r offset (length bytes) } ≡ put a offset bytes)
put_ring r w from stored offset first bytes f g p = grind (arith, nat_tests, put_stored)

-- a vector whose whole slice was written
pub vec_written : (n : ℕ) (old new : List ℕ) → length new ≡ length old → length old ≡ n → take n (new ++ drop (length new) old) ≡ new
vec_written n old new a b = grind (arith, nat_tests, drop_all, append_nil, take_all)

-- Where bytes are thrown away, offsets are noted

pub ring_noted : {T E : Type 0} (res : Result T E) (f : ℕ → ℕ) (old new : NumberSet) (w from stored offset n : ℕ)
    → OnOk res (new ≡ with_run old offset n) → OnErr res (new ≡ old) → IsRing f old w from stored true → IsRing f new w from stored true
ring_noted res f old new w from stored offset n ok err h = grind (arith, nat_tests, contains-with_run, is_in_run)

-- How large it is

pub size_fits : (span window power least size : ℕ) → IsPowerOfTwo power → span ≤ power → power / 2 < max 1 span → least ≡ max power 64 → size ≡ min least window → span ≤ window → IsSizeFor span window size
size_fits span window power least size two reaches near least_is size_is fits =
    record {
      reaches = omega (arith, reaches, least_is, size_is, fits);
      within = omega (arith, size_is);
      bound = omega (arith, near, least_is, size_is);
      power =
          elim (cases_lt window least) [
            | inl capped ↦ inr (omega (arith, size_is, capped))
            | inr whole ↦ elim (cases_lt 64 power) [
              | inl more ↦ inl (two.0, (let same : size ≡ power = omega (arith, least_is, size_is, whole, more) in same) ∙ two.1)
              | inr few ↦ inl (6, (let same : size ≡ 64 = omega (arith, least_is, size_is, whole, few) in same))
            ]
          ];
    }

-- the end of what came, with a run of some more
pub end_more : (r : NumberSet) (offset n end last : ℕ) → end ≡ end_of r → 0 < n → last ≡ max end (offset + n) → last ≡ end_of (with_run r offset n)
end_more r offset n end last is some last_is = let ends = end_of-with_range r offset (offset + n) (omega arith) in omega (arith, is, last_is, ends)

-- ---- Bytes that are held against those that are stored.
--     byte_in, byte_there      a byte of a run, by its place
--     same_true, same_at      bytes are the same where each offset that has a byte in both has one
--     same_none, same_by      so they are where nothing is stored, and alike where two maps have alike
--     part      the bytes of a run from an offset on and below another

-- a byte of a run, and its place

pub byte_there : (at : ℕ) (bytes : List ℕ) (q : ℕ) → at ≤ q → q < at + length bytes → byte_at at bytes q ≡ Some (slice_index bytes (q - at))
byte_there at bytes q low high = grind (arith, nat_tests, slice_get-get_or)

pub byte_in : (at : ℕ) (bytes : List ℕ) (q c : ℕ) → byte_at at bytes q ≡ Some c → (at ≤ q) × (q < at + length bytes) × (slice_index bytes (q - at) ≡ c)
byte_in at bytes q c is = grind (arith, nat_tests, slice_get_within, get_or_from_slice_get)

-- The same at each offset

agrees_from : (o : Option ℕ) (c : ℕ) → ((b : ℕ) → o ≡ Some b → b ≡ c) → agrees o c ≡ true
agrees_from o c is = grind (arith, nat_tests)

agrees_is : (o : Option ℕ) (b c : ℕ) → o ≡ Some b → agrees o c ≡ true → b ≡ c
agrees_is o b c e h = eqb-true b c (sym (ap (λ x. agrees x c) e) ∙ h)

pub same_true : (m : map.FinMap nat_cmp ℕ) (at : ℕ) (bytes : List ℕ)
    → ((q b c : ℕ) → map.get m q ≡ Some b → byte_at at bytes q ≡ Some c → b ≡ c) → same m at bytes ≡ true
unfolding same
same_true m at [] is = refl
same_true m at (byte ∷ bytes) is =
    and_from _ _ (agrees_from (map.get m at) byte (λ b e. is at b byte e (byte_at_front at at byte bytes refl)))
    (same_true m (at + 1) bytes (λ q b c e f.
    let low = (byte_in (at + 1) bytes q c f).0 in
    is q b c e (byte_at_back at q byte bytes (omega (arith, low)) ∙ f)))

pub same_at : (m : map.FinMap nat_cmp ℕ) (at : ℕ) (bytes : List ℕ) (q b c : ℕ) → same m at bytes ≡ true → map.get m q ≡ Some b → byte_at at bytes q ≡ Some c → b ≡ c
unfolding same
same_at m at [] q b c h e f = let r = byte_in at [] q c f in absurd (omega (arith, r.0, r.1))
same_at m at (byte ∷ bytes) q b c h e f =
    let parts = and_parts (agrees (map.get m at) byte) (same m (at + 1) bytes) h in
    let low = (byte_in at (byte ∷ bytes) q c f).0 in
    elim (cases_lt at q) [
      | inl past ↦ same_at m (at + 1) bytes q b c parts.1 e (sym (byte_at_back at q byte bytes past) ∙ f)
      | inr here ↦
          let is : q ≡ at = omega (arith, low) in
          let one : c ≡ byte = sym (byte_in at (byte ∷ bytes) q c f).2 ∙ (byte_in at (byte ∷ bytes) q byte (byte_at_front at q byte bytes is)).2 in
          agrees_is (map.get m at) b byte (ap (map.get m) (sym is) ∙ e) parts.0 ∙ sym one
    ]

pub same_none : (m : map.FinMap nat_cmp ℕ) (at : ℕ) (bytes : List ℕ) → ((q : ℕ) → at ≤ q → q < at + length bytes → map.get m q ≡ None) → same m at bytes ≡ true
same_none m at bytes none = grind (arith, nat_tests, same_true, byte_in)

pub same_empty : (m : map.FinMap nat_cmp ℕ) (at : ℕ) (bytes : List ℕ) → m ≡ map.empty → same m at bytes ≡ true
same_empty m at bytes empty = same_none m at bytes (λ q low high. ap (λ n. map.get n q) empty ∙ map.get-empty nat_cmp q)

pub same_by : (m n : map.FinMap nat_cmp ℕ) (at : ℕ) (bytes : List ℕ) → ((q : ℕ) → at ≤ q → q < at + length bytes → map.get m q ≡ map.get n q) → same m at bytes ≡ same n at bytes
unfolding same
same_by m n at [] is = refl
same_by m n at (byte ∷ bytes) is = grind (arith, nat_tests, same_by m n (at + 1) bytes (λ q low high. is q (omega arith) (omega arith)))

-- the part of a run from an offset on and below another
abbrev pub part : ℕ → List ℕ → ℕ → ℕ → List ℕ
part at xs from to = take (to - at - (from - at)) (drop (from - at) xs)

pub length_part : (at : ℕ) (xs : List ℕ) (from to : ℕ) → at ≤ from → from ≤ to → to ≤ at + length xs → length (part at xs from to) ≡ to - from
length_part at xs from to low some high = simp (length-take, length-drop) (omega arith)

pub part_at : (at : ℕ) (xs : List ℕ) (from to k : ℕ) → at ≤ from → k < to - from → slice_index (part at xs from to) k ≡ slice_index xs (from + k - at)
part_at at xs from to k low below = grind (arith, nat_tests, get_or-take, get_or-drop)
