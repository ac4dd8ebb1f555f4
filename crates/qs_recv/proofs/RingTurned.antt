-- Where offsets stand in a ring, and what its places have after bytes were written.
--     places       how the places of two offsets lie to each other
--     written_..   bytes written in one piece, and in two
--     place_past   an offset less than a turn past another
--     filled_..    bytes written into the gaps one after another
--     place_by_bits      a place where the size is a power of two
use lib.Count.{ones_step}
use Rattle.std.specs.FinSet as set
use Rattle.std.proofs.Common.{◌≡◌, ℕ, ◌+◌, ◌-◌, ◌*◌, ◌/◌, ◌%◌, ◌<◌, ◌≤◌, true, false, if◌then◌else◌, List, length, take, drop, refl, ◌⊎◌, ◌∙◌, ap, arith, inl, inr, length-drop, Bool, min, sym, ◌==◌, max, subst}
use Rattle.std.specs.Prelude.{◌^◌, zero, suc, slice_index, ◌++◌, replicate, slice_index_or}
use Rattle.std.proofs.Math.Nat.{two-pow-succ}
use Rattle.std.specs.Int.{IsPowerOfTwo, is_power_of_two}
use Rattle.std.specs.Int.RustNames.{bit_and, count_ones}
use Rattle.std.proofs.lemmas.Nat.{and_mask, mod_below, ones_le_self, zero_from_ones}
use Rattle.std.proofs.lemmas.List.{get_or-take, get_or-drop, length-take, get_or_append_left, get_or-append_right, get_or-replicate, get_or_past, length-append, length-replicate, take-append-le}
use Rattle.std.proofs.lemmas.Bool.{cases_lt, both_ways}
use Rattle.std.proofs.lemmas.Bool.Decides.{nat_tests}
use Rattle.qs_ranges.specs.Numbers.{NumberSet, is_within, ContainsRange}
use Rattle.qs_recv.specs.Ring.{IsFilled, IsNextRun, IsWritten, AreAt, IsMoved, around, padded, places_of, AreFilled, AreWritten, CameWritten, IsApart, IsThere, RingBytes, StayWritten, StayWrittenTo}
use Rattle.std.proofs.lemmas.Grind.{common_steps, same_number_lists}
use Rattle.std.specs.Bool.{Decides}
use Rattle.std.proofs.Math.Seq.{take-append-add}
use Rattle.qs_recv.proofs.RingLaws.{contains-with_run, with_run}
use Rattle.qs_recv.specs.Pages.{Pages, has_page}

-- the quotients of two offsets that lie less than a turn apart
pub next_turn : (w a b : ℕ) → 0 < w → b ≤ a + w → a / w < b / w → w * (b / w) ≡ w * (a / w) + w
next_turn w a b pos near lt = grind (arith, nat_tests)

-- the places of two offsets that lie a turn apart at most
pub places : (at q w : ℕ) → 0 < w → at ≤ q + w → q < at + w
    → (q % w + at ≡ at % w + q) ⊎ ((q % w + at + w ≡ at % w + q) ⊎ (q % w + at ≡ at % w + q + w))
places at q w pos low high = grind (arith, nat_tests, next_turn)

pub written_once : (at : ℕ) (bytes old new : List ℕ) → 0 < length old → at % length old + length bytes ≤ length old
    → ((k : ℕ) → slice_index new k ≡ (if is_within (at % length old) (at % length old + length bytes) k then slice_index bytes (k - at % length old) else slice_index old k))
    → IsWritten at bytes old new
written_once at bytes old new pos fits is q low high =
    let k = q % length old in
    let p = at % length old in
    let below : k < length old = mod_below q (length old) pos in
    is k ∙ one_piece k p (length old) (length bytes) below fits low high (places at q (length old) pos (omega arith) high)
  where
    one_piece : (k p w n : ℕ) → k < w → p + n ≤ w → at + n ≤ q + w → q < at + w → (k + at ≡ p + q) ⊎ ((k + at + w ≡ p + q) ⊎ (k + at ≡ p + q + w))
        → (if is_within p (p + n) k then slice_index bytes (k - p) else slice_index old k) ≡ (if is_within at (at + n) q then slice_index bytes (q - at) else slice_index old k)
    one_piece k p w n below fits low high (inl here) = grind (arith, nat_tests)
    one_piece k p w n below fits low high (inr (inl later)) = grind (arith, nat_tests)
    one_piece k p w n below fits low high (inr (inr before)) = grind (arith, nat_tests)

pub written_twice : (at room : ℕ) (bytes front back old mid new : List ℕ) → 0 < length old → length bytes ≤ length old → room ≡ length old - at % length old → room < length bytes
    → front ≡ take room bytes → back ≡ drop room bytes → length front ≡ room → length back + room ≡ length bytes
    → ((k : ℕ) → slice_index mid k ≡ (if is_within (at % length old) (at % length old + length front) k then slice_index front (k - at % length old) else slice_index old k))
    → ((k : ℕ) → slice_index new k ≡ (if is_within 0 (0 + length back) k then slice_index back (k - 0) else slice_index mid k))
    → IsWritten at bytes old new
written_twice at room bytes front back old mid new pos fits rest more front_is back_is front_len back_len mid_is new_is q low high =
    let k = q % length old in
    let p = at % length old in
    let below : k < length old = mod_below q (length old) pos in
    let start : p < length old = mod_below at (length old) pos in
    new_is k ∙ ap (λ v. if is_within 0 (0 + length back) k then slice_index back (k - 0) else v) (mid_is k)
    ∙ two_pieces k p (length old) (length bytes) (length front) (length back) below start fits rest more front_len back_len low high (places at q (length old) pos (omega arith) high)
  where
    first_part : (i : ℕ) → i < room → slice_index front i ≡ slice_index bytes i
    first_part i h = ap (λ xs. slice_index xs i) front_is ∙ get_or-take room bytes i 0 h

    last_part : (i : ℕ) → slice_index back i ≡ slice_index bytes (room + i)
    last_part i = ap (λ xs. slice_index xs i) back_is ∙ get_or-drop room bytes i 0

    two_pieces : (k p w n f b : ℕ) → k < w → p < w → n ≤ w → room ≡ w - p → room < n → f ≡ room → b + room ≡ n → at + n ≤ q + w → q < at + w → (k + at ≡ p + q) ⊎ ((k + at + w ≡ p + q) ⊎ (k + at ≡ p + q + w))
        → (if is_within 0 (0 + b) k then slice_index back (k - 0) else (if is_within p (p + f) k then slice_index front (k - p) else slice_index old k))
        ≡ (if is_within at (at + n) q then slice_index bytes (q - at) else slice_index old k)
    two_pieces k p w n f b below start fits rest more f_is b_is low high (inl here) =
        let a : is_within 0 (0 + b) k ≡ false = grind (arith, nat_tests) in
        elim (cases_lt q at) [
          | inl under ↦
              let x : is_within p (p + f) k ≡ false = grind (arith, nat_tests) in
              let y : is_within at (at + n) q ≡ false = grind (arith, nat_tests) in
              rw (a, x, y) refl
          | inr from ↦
              let x : is_within p (p + f) k ≡ true = grind (arith, nat_tests) in
              let y : is_within at (at + n) q ≡ true = grind (arith, nat_tests) in
              let same : k - p ≡ q - at = omega arith in
              rw (a, x, y) (first_part (k - p) (omega arith) ∙ ap (slice_index bytes) same)
        ]
    two_pieces k p w n f b below start fits rest more f_is b_is low high (inr (inl later)) =
        let x : is_within p (p + f) k ≡ false = grind (arith, nat_tests) in
        elim (cases_lt k b) [
          | inl within ↦
              let a : is_within 0 (0 + b) k ≡ true = grind (arith, nat_tests) in
              let y : is_within at (at + n) q ≡ true = grind (arith, nat_tests) in
              let same : room + k ≡ q - at = omega arith in
              let whole : k - 0 ≡ k = omega arith in
              rw (a, y) (ap (slice_index back) whole ∙ last_part k ∙ ap (slice_index bytes) same)
          | inr past ↦
              let a : is_within 0 (0 + b) k ≡ false = grind (arith, nat_tests) in
              let y : is_within at (at + n) q ≡ false = grind (arith, nat_tests) in
              rw (a, x, y) refl
        ]
    two_pieces k p w n f b below start fits rest more f_is b_is low high (inr (inr before)) = absurd (omega arith)

-- Less than a turn past another

-- the place of an offset less than a turn past another
pub place_past : (at i w : ℕ) → 0 < w → i < w → ((at + i) % w ≡ at % w + i) ⊎ ((at + i) % w + w ≡ at % w + i)
place_past at i w pos h =
    elim (places at (at + i) w pos (omega arith) (omega arith)) [
      | inl here ↦ inl (omega arith)
      | inr apart ↦ elim apart [
        | inl later ↦ inr (omega arith)
        | inr before ↦ (let b = mod_below (at + i) w pos in absurd (omega (arith, b)))
      ]
    ]

-- Gap after gap

pub filled_none : (r : NumberSet) (first offset : ℕ) (bytes ring : List ℕ) → IsFilled r first first offset bytes ring ring
filled_none r first offset bytes ring q low high =
    let none : is_within first first q ≡ false = grind (arith, nat_tests) in
    rw none refl

pub filled_gap : (r : NumberSet) (first at end stop next offset : ℕ) (bytes old mid new : List ℕ) → offset ≤ first → first ≤ at → end ≤ offset + length bytes → at < stop → IsNextRun r at end stop next
    → length mid ≡ length old → IsFilled r first at offset bytes old mid → IsWritten at (take (stop - offset - (at - offset)) (drop (at - offset) bytes)) mid new
    → IsFilled r first next offset bytes old new
filled_gap r first at end stop next offset bytes old mid new begins low_at fits some g len filled written q low high = grind (arith, nat_tests, length-take, length-drop, get_or-take, get_or-drop)

-- a number with one bit is a power of two
one_bit : (d n : ℕ) → n ≤ d → count_ones n ≡ 1 → IsPowerOfTwo n
one_bit zero n h e = let none : count_ones n ≤ n = ones_le_self n in absurd (omega (arith, none))
one_bit (suc d) n h e =
    let s = ones_step n in
    elim (cases_lt 0 (n % 2)) [
      | inl odd ↦ let half : n / 2 ≡ 0 = zero_from_ones (n / 2) (omega (arith, s)) in (0, omega (arith, half))
      | inr even ↦
          let half = one_bit d (n / 2) (omega arith) (omega (arith, s)) in
          let power = half.1 in
          let doubled = two-pow-succ half.0 in
          (suc half.0, omega (arith, power, doubled))
    ]

-- where a size is a power of two, an offset's low bits are its place
pub place_by_bits : (at size : ℕ) → is_power_of_two size ≡ true → bit_and at (size - 1) ≡ at % size
place_by_bits at size one =
    let power = one_bit size size (omega arith) (eq_of one) in
    powers power.0 size power.1
  where
    powers : (k n : ℕ) → n ≡ 2 ^ k → bit_and at (n - 1) ≡ at % n
    powers k n is = rw is (and_mask at k)

    eq_of : is_power_of_two size ≡ true → count_ones size ≡ 1
    eq_of e = grind (arith, nat_tests)

-- ---- The places of a ring of which only the written bytes are kept.
--     length_places, place_at      how many there are, and what each has
--     write_once, write_twice      bytes written over those that are kept, in one piece and in two
--     part_at, out_at      so many of them, in one piece or in two
--     moved_down, rotated      these at the front
--     begun      a ring that begins with these
--     turned_by, turned_by_less, stayed      a ring that grew where it stands
--     is_once, is_twice      bytes that are held against those at their places

-- A turn

turned_front : (p i : ℕ) (xs : List ℕ) → p + i < length xs → slice_index (drop p xs ++ take p xs) i ≡ slice_index xs (p + i)
turned_front p i xs below = grind (arith, nat_tests, length-drop, get_or_append_left, get_or-drop)

turned_back : (p i : ℕ) (xs : List ℕ) → p ≤ length xs → length xs ≤ p + i → i < length xs → slice_index (drop p xs ++ take p xs) i ≡ slice_index xs (p + i - length xs)
turned_back p i xs fits past below = grind (arith, nat_tests, length-drop, get_or-append_right, get_or-take)

-- Places

-- a whole turn further on
whole_turn : (q w : ℕ) → 0 < w → (q + w) % w ≡ q % w
whole_turn q w pos = grind (arith, nat_tests)

-- the place of an offset a turn further on at most
place_on : (q t w : ℕ) → 0 < w → t ≤ w → ((q + t) % w ≡ q % w + t) ⊎ ((q + t) % w + w ≡ q % w + t)
place_on q t w pos h =
    elim (cases_lt t w) [
      | inl less ↦ place_past q t w pos less
      | inr whole ↦
          let e : t ≡ w = omega (arith, h, whole) in
          let turn = whole_turn q w pos in
          inr (rw e (omega (arith, turn)))
    ]

length_padded : (size : ℕ) (bytes : List ℕ) → length bytes ≤ size → length (padded size bytes) ≡ size
length_padded size bytes h = simp (length-append, length-replicate) (omega (arith, h))

pub length_places : (turn size : ℕ) (bytes : List ℕ) → turn ≤ size → length bytes ≤ size → length (places_of turn size bytes) ≡ size
length_places turn size bytes turned within = grind (arith, nat_tests, length_padded, length-append, length-drop, length-take)

-- what was never written is zero
padded_at : (size k : ℕ) (bytes : List ℕ) → slice_index (padded size bytes) k ≡ slice_index bytes k
padded_at size k bytes = grind (arith, nat_tests, get_or_append_left, get_or-append_right, get_or_past, get_or-replicate, length-replicate)

pub place_at : (turn size q : ℕ) (bytes : List ℕ) → 0 < size → turn ≤ size → length bytes ≤ size → slice_index (places_of turn size bytes) (q % size) ≡ slice_index bytes ((q + turn) % size)
place_at turn size q bytes pos turned within =
    let whole = length_padded size bytes within in
    let here = mod_below q size pos in
    let there = mod_below (q + turn) size pos in
    elim (place_on q turn size pos turned) [
      | inl on ↦ turned_front turn (q % size) (padded size bytes) (omega (arith, whole, on, there)) ∙ padded_at size (turn + q % size) bytes ∙ ap (slice_index bytes) (let e : turn + q % size ≡ (q + turn) % size = omega (arith, on) in e)
      | inr around ↦
          turned_back turn (q % size) (padded size bytes) (omega (arith, whole, turned)) (omega (arith, whole, around)) (omega (arith, whole, here))
          ∙ padded_at size (turn + q % size - length (padded size bytes)) bytes
          ∙ ap (slice_index bytes) (let e : turn + q % size - length (padded size bytes) ≡ (q + turn) % size = omega (arith, around, whole) in e)
    ]

-- the same where the place is told by the ring's length
pub place_of_size : (turn size q : ℕ) (bytes : List ℕ) → 0 < size → turn ≤ size → length bytes ≤ size → slice_index (places_of turn size bytes) (q % length (places_of turn size bytes)) ≡ slice_index bytes ((q + turn) % size)
place_of_size turn size q bytes pos turned within = grind (arith, nat_tests, length_places, place_at)

-- Written

-- what is written to the kept bytes is written to the places
write_turned : (at turn size : ℕ) (bytes old new : List ℕ) → 0 < size → turn ≤ size → length old ≤ size → length new ≤ size → IsWritten (at + turn) bytes (padded size old) (padded size new) → IsWritten at bytes (places_of turn size old) (places_of turn size new)
write_turned at turn size bytes old new pos turned within after written q low high = grind (arith, nat_tests, length_places, length_padded, place_at, padded_at)

pub write_once : (at turn size place : ℕ) (bytes old new : List ℕ) → 0 < size → turn ≤ size → length old ≤ size → length new ≤ size → place ≡ (at + turn) % size → place + length bytes ≤ size
    → ((k : ℕ) → slice_index new k ≡ (if is_within place (place + length bytes) k then slice_index bytes (k - place) else slice_index old k))
    → IsWritten at bytes (places_of turn size old) (places_of turn size new)
write_once at turn size place bytes old new pos turned within after place_is fits is = grind (arith, nat_tests, length_padded, write_turned, written_once, padded_at)

pub write_twice : (at turn size place room : ℕ) (bytes front back old mid new : List ℕ) → 0 < size → turn ≤ size → length old ≤ size → length new ≤ size → place ≡ (at + turn) % size → length bytes ≤ size → room ≡ size - place → room < length bytes
    → front ≡ take room bytes → back ≡ drop room bytes → length front ≡ room → length back + room ≡ length bytes
    → ((k : ℕ) → slice_index mid k ≡ (if is_within place (place + length front) k then slice_index front (k - place) else slice_index old k))
    → ((k : ℕ) → slice_index new k ≡ (if is_within 0 (0 + length back) k then slice_index back (k - 0) else slice_index mid k))
    → IsWritten at bytes (places_of turn size old) (places_of turn size new)
write_twice at turn size place room bytes front back old mid new pos turned within after place_is fits rest more front_is back_is front_len back_len mid_is new_is =
    let p = length_padded size old within in
    let at_is : place ≡ (at + turn) % length (padded size old) = place_is ∙ ap (λ n. (at + turn) % n) (sym p) in
    write_turned at turn size bytes old new pos turned within after
    (written_twice (at + turn) room bytes front back (padded size old) mid (padded size new) (omega (arith, p, pos)) (omega (arith, p, fits)) (omega (arith, p, at_is, rest)) more front_is back_is front_len back_len
    (rw (← at_is) (λ k. mid_is k ∙ ap (λ v. if is_within place (place + length front) k then slice_index front (k - place) else v) (sym (padded_at size k old))))
    (λ k. padded_at size k new ∙ new_is k))

-- So many from a place on

pub around_once : (place count : ℕ) (bytes : List ℕ) → place + count ≤ length bytes → take count (drop place bytes) ≡ around place count bytes
around_once place count bytes fits = sym (take-append-le count (drop place bytes) bytes (simp length-drop (omega (arith, fits))))

pub around_twice : (place count room : ℕ) (bytes : List ℕ) → place ≤ length bytes → room ≡ length bytes - place → room < count → drop place bytes ++ take (count - room) bytes ≡ around place count bytes
around_twice place count room bytes begins rest more =
    let len : length (drop place bytes) ≡ room = length-drop place bytes ∙ sym rest in
    let e : count ≡ length (drop place bytes) + (count - room) = omega (arith, more, len) in
    sym (ap (λ m. take m (drop place bytes ++ bytes)) e ∙ take-append-add (drop place bytes) bytes (count - room))

pub length_around : (place count : ℕ) (bytes : List ℕ) → count ≤ length bytes → length (around place count bytes) ≡ count
length_around place count bytes h = simp (length-take, length-append, length-drop) (omega (arith, h))

pub part_at : (at turn size place count : ℕ) (bytes : List ℕ) → 0 < size → turn ≤ size → length bytes ≤ size → place ≡ (at + turn) % size → count ≤ size → min (place + count) size ≤ length bytes
    → (k : ℕ) → k < count → slice_index (around place count bytes) k ≡ slice_index (places_of turn size bytes) ((at + k) % length (places_of turn size bytes))
part_at at turn size place count bytes pos turned within place_is fits reaches k below =
    let start = mod_below (at + turn) size pos in
    let end = mod_below (at + turn + k) size pos in
    let len = length-drop place bytes in
    let same : at + turn + k ≡ at + k + turn = omega arith in
    let there = place_of_size turn size (at + k) bytes pos turned within in
    get_or-take count (drop place bytes ++ bytes) k 0 below ∙ elim (place_past (at + turn) k size pos (omega (arith, below, fits))) [
      | inl on ↦
          get_or_append_left (drop place bytes) bytes 0 k (omega (arith, len, on, end, place_is, reaches, below)) ∙ get_or-drop place bytes k 0
          ∙ ap (slice_index bytes) (let e : place + k ≡ (at + turn + k) % size = omega (arith, place_is, on) in e) ∙ ap (λ n. slice_index bytes (n % size)) same ∙ sym there
      | inr around ↦
          let full : length bytes ≡ size = omega (arith, reaches, within, around, place_is, below) in
          get_or-append_right (drop place bytes) bytes (size - place) k 0 (len ∙ ap (λ n. n - place) full) (omega (arith, around, place_is))
          ∙ ap (slice_index bytes) (let e : k - (size - place) ≡ (at + turn + k) % size = omega (arith, place_is, around, start) in e) ∙ ap (λ n. slice_index bytes (n % size)) same ∙ sym there
    ]

-- copied out in one piece
pub out_at_once : (at turn size place count to : ℕ) (bytes out : List ℕ) → 0 < size → turn ≤ size → length bytes ≤ size → place ≡ (at + turn) % size → place + count ≤ length bytes → to ≡ place + count → out ≡ take (to - place) (drop place bytes)
    → (k : ℕ) → k < count → slice_index out k ≡ slice_index (places_of turn size bytes) ((at + k) % length (places_of turn size bytes))
out_at_once at turn size place count to bytes out pos turned within place_is fits end is k below = grind (arith, nat_tests, around_once, part_at)

-- and in two
pub out_at_twice : (count : ℕ) (front back into mid out : List ℕ) → length front + length back ≡ count
    → ((k : ℕ) → slice_index mid k ≡ (if is_within 0 (0 + length front) k then slice_index front (k - 0) else slice_index into k))
    → ((k : ℕ) → slice_index out k ≡ (if is_within (length front) (length front + length back) k then slice_index back (k - length front) else slice_index mid k))
    → (k : ℕ) → k < count → slice_index out k ≡ slice_index (front ++ back) k
out_at_twice count front back into mid out len mid_is out_is k below = grind (arith, nat_tests, get_or_append_left, get_or-append_right)

-- A ring that begins with them

-- the offset `from` stands first
pub first_place : (from q v : ℕ) → 0 < v → from ≤ q → q < from + v → (q + (v - from % v)) % v ≡ q - from
first_place from q v pos low high = grind (arith, nat_tests)

pub begun : (from turn size place count v start : ℕ) (bytes kept : List ℕ) → 0 < size → turn ≤ size → length bytes ≤ size → place ≡ (from + turn) % size → count ≤ size → min (place + count) size ≤ length bytes
    → 0 < v → count ≤ v → start ≡ v - from % v → kept ≡ around place count bytes → IsMoved from count (places_of turn size bytes) (places_of start v kept)
begun from turn size place count v start bytes kept pos turned within place_is fits reaches some room start_is is q low high =
    let len : length kept ≡ count = ap length is ∙ length_around place count bytes (omega (arith, reaches, fits)) in
    let at : from + (q - from) ≡ q = omega (arith, low) in
    grind (arith, nat_tests, place_of_size, first_place, part_at)

-- so many bytes that were copied to the front
pub moved_down : (place count : ℕ) (bytes moved cut : List ℕ) → place ≤ length bytes → count ≤ length bytes - place → length moved ≡ length bytes → ((k d : ℕ) → 0 ≤ k → k < 0 + count → slice_index_or moved k d ≡ slice_index_or bytes (place + (k - 0)) d) → cut ≡ take count moved → cut ≡ around place count bytes
moved_down place count bytes moved cut begins fits len copied cut_is = grind (arith, common_steps, same_number_lists, get_or-drop)

-- so many of the bytes that were turned
pub rotated : (place count : ℕ) (bytes turned cut : List ℕ) → place ≤ length bytes → count ≤ length bytes → turned ≡ drop place bytes ++ take place bytes → cut ≡ take count turned → cut ≡ around place count bytes
rotated place count bytes turned cut begins fits turned_is cut_is = grind (arith, nat_tests, length-drop, length-take, length-append, same_number_lists, get_or-take, get_or_append_left, get_or-append_right)

-- Held against others

there_front : (at turn size place k : ℕ) (bytes : List ℕ) → 0 < size → turn ≤ size → length bytes ≤ size → place ≡ (at + turn) % size → place + k < size
    → slice_index (places_of turn size bytes) ((at + k) % length (places_of turn size bytes)) ≡ slice_index bytes (place + k)
there_front at turn size place k bytes pos turned within place_is low =
    let end = mod_below (at + turn + k) size pos in
    let same : at + k + turn ≡ at + turn + k = omega arith in
    place_of_size turn size (at + k) bytes pos turned within ∙ ap (λ n. slice_index bytes (n % size)) same ∙ elim (place_past (at + turn) k size pos (omega (arith, low))) [
      | inl on ↦ ap (slice_index bytes) (let e : (at + turn + k) % size ≡ place + k = omega (arith, on, place_is) in e)
      | inr around ↦ absurd (omega (arith, around, low, place_is, end))
    ]

there_back : (at turn size place k : ℕ) (bytes : List ℕ) → 0 < size → turn ≤ size → length bytes ≤ size → place ≡ (at + turn) % size → k < size → size ≤ place + k
    → slice_index (places_of turn size bytes) ((at + k) % length (places_of turn size bytes)) ≡ slice_index bytes (0 + (k - (size - place)))
there_back at turn size place k bytes pos turned within place_is below high =
    let start = mod_below (at + turn) size pos in
    let end = mod_below (at + turn + k) size pos in
    let same : at + k + turn ≡ at + turn + k = omega arith in
    place_of_size turn size (at + k) bytes pos turned within ∙ ap (λ n. slice_index bytes (n % size)) same ∙ elim (place_past (at + turn) k size pos below) [
      | inl on ↦ absurd (omega (arith, on, high, place_is, end))
      | inr around ↦ ap (slice_index bytes) (let e : (at + turn + k) % size ≡ 0 + (k - (size - place)) = omega (arith, around, place_is, start) in e)
    ]

pub is_once : (at turn size place : ℕ) (kept bytes : List ℕ) (r : Bool) → 0 < size → turn ≤ size → length kept ≤ size → place ≡ (at + turn) % size → place + length bytes ≤ size
    → Decides r ((k : ℕ) → k < length bytes → slice_index bytes k ≡ slice_index kept (place + k)) → Decides r (AreAt (places_of turn size kept) at bytes)
is_once at turn size place kept bytes r pos turned within place_is fits decides = grind (arith, nat_tests, there_front)

pub not_front : (at turn size place room : ℕ) (kept bytes front : List ℕ) (r : Bool) → 0 < size → turn ≤ size → length kept ≤ size → place ≡ (at + turn) % size → room ≡ size - place → room < length bytes → front ≡ take room bytes → length front ≡ room
    → Decides r ((k : ℕ) → k < length front → slice_index front k ≡ slice_index kept (place + k)) → r ≡ false → Decides r (AreAt (places_of turn size kept) at bytes)
not_front at turn size place room kept bytes front r pos turned within place_is rest more front_is front_len decides apart = grind (arith, nat_tests, get_or-take, there_front)

pub is_twice : (at turn size place room : ℕ) (kept bytes front back : List ℕ) (r s : Bool) → 0 < size → turn ≤ size → length kept ≤ size → place ≡ (at + turn) % size → length bytes ≤ size → room ≡ size - place → room < length bytes
    → front ≡ take room bytes → back ≡ drop room bytes → length front ≡ room → length back + room ≡ length bytes
    → Decides r ((k : ℕ) → k < length front → slice_index front k ≡ slice_index kept (place + k)) → r ≡ true
    → Decides s ((k : ℕ) → k < length back → slice_index back k ≡ slice_index kept (0 + k)) → Decides s (AreAt (places_of turn size kept) at bytes)
is_twice at turn size place room kept bytes front back r s pos turned within place_is fits rest more front_is back_is front_len back_len first equal second = grind (arith, nat_tests, get_or-take, there_front, get_or-drop, there_back)

-- A ring that grew where it stands

pub turned_by : (place from size part : ℕ) → place < size → part ≡ from % size → place + (size - part) ≤ size → place ≡ (from + (place + (size - part))) % size
turned_by place from size part within is fits = grind (arith, nat_tests)

pub turned_by_less : (place from size part : ℕ) → place < size → part ≡ from % size → size < place + (size - part) → place ≡ (from + (place + (size - part) - size)) % size
turned_by_less place from size part within is over = grind (arith, nat_tests)

pub stayed : (from turn size place count v start : ℕ) (bytes kept : List ℕ) → 0 < size → turn ≤ size → length bytes ≤ size → place ≡ (from + turn) % size → place + count ≤ size
    → size ≤ v → start ≤ v → place ≡ (from + start) % v → kept ≡ bytes → IsMoved from count (places_of turn size bytes) (places_of start v kept)
stayed from turn size place count v start bytes kept pos turned within place_is fits more start_fits start_is same q low high =
    let at : from + (q - from) ≡ q = omega (arith, low) in
    let old = there_front from turn size place (q - from) bytes pos turned within place_is (omega (arith, low, high, fits)) in
    let new = there_front from start v place (q - from) kept (omega (arith, pos, more)) start_fits (rw same (omega (arith, within, more))) start_is (omega (arith, low, high, fits, more)) in
    grind (arith, nat_tests)

-- Zeros

-- the places are the same with zeros behind what is kept
pub same_places : (turn size : ℕ) (old new : List ℕ) → length old ≤ size → length new ≤ size → ((k : ℕ) → slice_index new k ≡ slice_index old k) → places_of turn size new ≡ places_of turn size old
same_places turn size old new within after same = grind (arith, nat_tests, same_number_lists, length_padded, padded_at)

pub length_parts : (size place count : ℕ) (bytes front back : List ℕ) → count ≤ size → min (place + count) size ≤ length bytes → front ++ back ≡ around place count bytes → length front + length back ≡ count
length_parts size place count bytes front back fits reaches is =
    sym (length-append front back) ∙ ap length is ∙ length_around place count bytes (omega (arith, fits, reaches))

-- Written over what is kept, and behind it

-- cut off or filled up with zeros
pub cut_to : (place count : ℕ) (old mid : List ℕ) → count ≡ length old → mid ≡ take place old ++ replicate (place - count) 0 → (length mid ≡ place) × ((k : ℕ) → k < place → slice_index mid k ≡ slice_index old k)
cut_to place count old mid count_is is = grind (arith, nat_tests, length-take, length-replicate, length-append, get_or_append_left, get_or-take, get_or-append_right, get_or-replicate, get_or_past)

pub written_over : (place : ℕ) (old mid new bytes : List ℕ) → length old < place + length bytes → length mid ≡ place → ((k : ℕ) → k < place → slice_index mid k ≡ slice_index old k) → new ≡ mid ++ bytes
    → (k : ℕ) → slice_index new k ≡ (if is_within place (place + length bytes) k then slice_index bytes (k - place) else slice_index old k)
written_over place old mid new bytes past len same is k = grind (arith, nat_tests, get_or_append_left, get_or-append_right, get_or_past)

-- bytes that are the ones from a place on
pub is_part : (place to : ℕ) (kept bytes : List ℕ) (r : Bool) → place + length bytes ≤ length kept → to ≡ place + length bytes → Decides r (bytes ≡ take (to - place) (drop place kept))
    → Decides r ((k : ℕ) → k < length bytes → slice_index bytes k ≡ slice_index kept (place + k))
is_part place to kept bytes r fits end decides = grind (arith, nat_tests, get_or-take, get_or-drop, length-take, length-drop, same_number_lists)

-- ---- Which places of a ring were written, and that those of what came are.
--     there_in, there_out      of an offset, where the place is told by the ring's size
--     stay_written, once_written, all_written      after bytes were written
--     begun_written, stayed_written      in a ring of another size
--     reached      so many bytes were, so the kept bytes reach over them
--     filled_more, piece_there      a gap after another, and a page
--     came_..      what came has its byte, after each call of an assembly

-- Places

pub there_in : (turn size count q : ℕ) (bytes : List ℕ) → turn ≤ size → length bytes ≤ size → (q + turn) % size < count → IsThere (places_of turn size bytes, (turn, count)) q
there_in turn size count q bytes turned within is = subst (λ n. (q + turn) % n < count) (sym (length_places turn size bytes turned within)) is

pub there_out : (turn size count q : ℕ) (bytes : List ℕ) → turn ≤ size → length bytes ≤ size → IsThere (places_of turn size bytes, (turn, count)) q → (q + turn) % size < count
there_out turn size count q bytes turned within is = subst (λ n. (q + turn) % n < count) (length_places turn size bytes turned within) is

-- the place of an offset that lies so much further on, where it doesn't wrap
past_place : (at turn size place q : ℕ) → 0 < size → place ≡ (at + turn) % size → at ≤ q → place + (q - at) < size → (q + turn) % size ≡ place + (q - at)
past_place at turn size place q pos place_is low below = grind (arith, nat_tests)

pub stay_written : (turn size one two : ℕ) (old new : List ℕ) → turn ≤ size → length old ≤ size → length new ≤ size → one ≤ two → StayWritten (places_of turn size old, (turn, one)) (places_of turn size new, (turn, two))
stay_written turn size one two old new turned within after more q is = grind (arith, common_steps, there_out)

pub once_written : (at turn size place n count : ℕ) (bytes : List ℕ) → 0 < size → turn ≤ size → length bytes ≤ size → place ≡ (at + turn) % size → place + n ≤ size → place + n ≤ count → AreWritten (places_of turn size bytes, (turn, count)) at (at + n)
once_written at turn size place n count bytes pos turned within place_is fits more q low high =
    let here = past_place at turn size place q pos place_is low (omega (arith, low, high, fits)) in
    there_in turn size count q bytes turned within (omega (arith, here, low, high, more))

pub all_written : (at to turn size count : ℕ) (bytes : List ℕ) → 0 < size → turn ≤ size → length bytes ≤ size → size ≤ count → AreWritten (places_of turn size bytes, (turn, count)) at to
all_written at to turn size count bytes pos turned within more q low high = grind (arith, nat_tests, there_in)

pub begun_written : (from v start count kept : ℕ) (bytes : List ℕ) → 0 < v → start ≡ v - from % v → count ≤ v → length bytes ≤ v → kept ≡ count → AreWritten (places_of start v bytes, (start, kept)) from (from + count)
begun_written from v start count kept bytes pos start_is fits within is q low high = grind (arith, nat_tests, first_place, there_in)

pub stayed_written : (from turn size place count v start kept two : ℕ) (bytes new : List ℕ) → 0 < size → turn ≤ size → length bytes ≤ size → place ≡ (from + turn) % size → place + count ≤ size
    → size ≤ v → start ≤ v → place ≡ (from + start) % v → length new ≤ v → kept ≤ two → StayWrittenTo from (from + count) (places_of turn size bytes, (turn, kept)) (places_of start v new, (start, two))
stayed_written from turn size place count v start kept two bytes new pos turned within place_is fits more start_fits start_is after longer q low high is =
    let was = there_out turn size kept q bytes turned within is in
    let old = past_place from turn size place q pos place_is low (omega (arith, low, high, fits)) in
    let here = past_place from start v place q (omega (arith, pos, more)) start_is low (omega (arith, low, high, fits, more)) in
    there_in start v two q new start_fits after (omega (arith, was, old, here, longer))

pub reached : (at turn size place count kept : ℕ) (bytes : List ℕ) → 0 < size → turn ≤ size → length bytes ≤ size → place ≡ (at + turn) % size → 0 < count → count ≤ size
    → AreWritten (places_of turn size bytes, (turn, kept)) at (at + count) → min (place + count) size ≤ kept
reached at turn size place count kept bytes pos turned within place_is some fits all =
    let begins = mod_below (at + turn) size pos in
    elim (cases_lt size (place + count)) [
      | inl wraps ↦
          let q = at + (size - 1 - place) in
          let there = there_out turn size kept q bytes turned within (all q (omega arith) (omega (arith, wraps, begins, place_is))) in
          let here = past_place at turn size place q pos place_is (omega arith) (omega (arith, begins, place_is, pos)) in
          omega (arith, there, here, begins, place_is, pos)
      | inr once ↦
          let q = at + (count - 1) in
          let there = there_out turn size kept q bytes turned within (all q (omega arith) (omega (arith, some))) in
          let here = past_place at turn size place q pos place_is (omega arith) (omega (arith, once, some)) in
          omega (arith, there, here, some)
    ]

-- where nothing is kept, a ring may begin anywhere
pub stay_begun : (first from kept : ℕ) (old new : RingBytes) → StayWrittenTo (if kept == 0 then first else from) ((if kept == 0 then first else from) + kept) old new → StayWrittenTo from (from + kept) old new
stay_begun first from kept old new stay = grind (arith, nat_tests)

-- the gap from `at` to `stop` was filled, and what follows it came before
pub filled_more : (r : NumberSet) (first at stop next offset : ℕ) (bytes : List ℕ) (mid new : RingBytes) → AreFilled r first at mid → StayWritten mid new
    → AreWritten new at (at + length (take (stop - offset - (at - offset)) (drop (at - offset) bytes))) → offset ≤ at → at ≤ stop → stop ≤ offset + length bytes → ContainsRange r stop next → AreFilled r first next new
filled_more r first at stop next offset bytes mid new filled stay written begins ordered within known q low high fresh = grind (arith, nat_tests, length-take, length-drop)

-- a page was moved into the ring
pub piece_there : (number to q count : ℕ) (page : List ℕ) (mid new : RingBytes) → number * 2048 < to → count ≡ min (to - number * 2048) 2048 → length page ≡ 2048 → StayWritten mid new
    → AreWritten new (number * 2048) (number * 2048 + length (take count page)) → q / 2048 < number + 1 → q < to → (q / 2048 < number → IsThere mid q) → IsThere new q
piece_there number to q count page mid new some count_is whole stay written low below before = grind (arith, nat_tests, length-take)

-- What came

-- an offset that came now or before
came_either : (r : NumberSet) (offset n q : ℕ) → set.contains (with_run r offset n) q ≡ true → (set.contains r q ≡ true) ⊎ ((set.contains r q ≡ false) × (offset ≤ q) × (q < offset + n))
came_either r offset n q came = grind (arith, nat_tests, contains-with_run)

-- bytes were stored in the ring
pub came_near : (r : NumberSet) (from near offset n first top : ℕ) (ring new : RingBytes) → CameWritten ring r from near false → StayWritten ring new → AreFilled r first (offset + n) new → ContainsRange r (max offset from) first
    → ((q : ℕ) → near ≤ q → set.contains r q ≡ true → offset + n ≤ near) → top ≡ max near (offset + n) → CameWritten new (with_run r offset n) from top false
came_near r from near offset n first top ring new was stay filled known last top_is on q low high came = grind (arith, nat_tests, came_either, cases_lt)

-- bytes were stored apart
pub came_far : (r : NumberSet) (from near offset n first : ℕ) (ring : RingBytes) → CameWritten ring r from near false → ContainsRange r (max offset from) first → near ≤ first → CameWritten ring (with_run r offset n) from near false
came_far r from near offset n first ring was known far on q low high came = grind (arith, nat_tests, came_either)

-- none were stored
pub came_still : (r : NumberSet) (from near : ℕ) (ring new : RingBytes) → CameWritten ring r from near false → StayWritten ring new → CameWritten new r from near false
came_still r from near ring new was stay on q low high came = stay q (was refl q low high came)

-- the ring reaches elsewhere
pub came_moved : (r : NumberSet) (from after near to : ℕ) (ring new : RingBytes) → CameWritten ring r from near false → from ≤ after → near ≤ to → StayWrittenTo after to ring new → CameWritten new r after near false
came_moved r from after near to ring new was past ends stay on q low high came = stay q low (omega (arith, high, ends)) (was refl q (omega (arith, low, past)) high came)

-- pages were moved into it
pub came_drawn : (r : NumberSet) (from near next end to : ℕ) (ring wide new : RingBytes) (pages : Pages) → CameWritten ring r from near false → IsApart ring.0 pages r from near end → near ≤ to → StayWrittenTo from to ring wide → StayWritten wide new
    → ((q : ℕ) → near / 2048 < q / 2048 → q < next → has_page pages q ≡ true → IsThere new q) → CameWritten new r from next false
came_drawn r from near next end to ring wide new pages was apart ends reached stay moved on q low high came = grind (arith, nat_tests)

-- where bytes are thrown away, or nothing lies before `near`, nothing is asked
pub came_off : (r : NumberSet) (from near : ℕ) (ring : RingBytes) → CameWritten ring r from near true
came_off r from near ring on = absurd (both_ways true on refl)

pub came_none : (r : NumberSet) (from near : ℕ) (ring : RingBytes) (off : Bool) → (off ≡ false → near ≤ from) → CameWritten ring r from near off
came_none r from near ring off none on q low high came = (let e = none on in absurd (omega (arith, e, low, high)))
