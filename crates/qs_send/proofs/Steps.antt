-- Which chunk is the longest one that is allowed.
use Rattle.std.specs.FinSet as set
use Rattle.std.proofs.Common.{◌≡◌, ℕ, ◌+◌, ◌≤◌, ◌<◌, Bool, true, ◌&&◌, ◌==◌, arith, nat_lt, IsTrue, inl, inr, zero, suc, ◌⊎◌, false, ◌||◌, refl, not, if◌then◌else◌, is_some, Option, Some, None, [], length, ◌-◌, max, List, append-nil, length-append, length-drop, ◌++◌, drop, sym}
use Rattle.std.proofs.lemmas.Bool.Decides.{nat_tests}
use Rattle.qs_ranges.specs.Numbers.{EndsBefore, AllBelow, NumberSet, numbers, contains-without_range, IsLeastFrom, ContainsRange, MissesRange, AreDisjoint, contains-numbers, contains-with_range, same_numbers, MAX_VARINT, missing_from, IsLeastMissingFrom, IsRunFrom}
use Rattle.qs_send.specs.declared.parts.Chunk.{Chunk}
use Rattle.qs_wire.specs.Varint.{short_len}
use Rattle.qs_send.specs.Lane.{Sending, after_sent, refusal, reset_refusal, lost_due, SendLane, unacked_from, new_sending, after_write, after_acked, broken_off, first_code}
use Rattle.qs_send.specs.Chunks.{IsDueChunk, IsNextChunk, HasNoChunk, offset_len, IsHeldByRoom, frame_len, WasSent, HasBytes}
use Rattle.qs_send.specs.Sound.{IsLawful, ArePartsOf, IsEnded}
use Rattle.qs_send.proofs.Numbers.{short_len-zero, short_len-more, short_len-most, short_len-one, short_len-join, short_len-some, offset_len-some, offset_len-most}
use Rattle.std.proofs.lemmas.Bool.{cases_lt, both_ways, cond_both}
use Rattle.qs_send.specs.Laws.{HeldByRoomOrLimits, NextChunkIsUnique, CutChunkIsLast, SendableHasChunk, SendableEndHasChunk, EachOffsetIsInOnePart, InFlightWasSent, CallsMoveParts, CallsKeepLawful, DeclaredSizeStays, OnlyNewBytesSpend}
use Rattle.std.specs.Ordering.{nat_cmp}
use Rattle.qs_ranges.proofs.Sets.{has_difference, has_union, AllBelow-empty, AllBelow-with_range, AllBelow-difference, missing_from-of}
use Rattle.qs_send.specs.declared.parts.Reset.{Reset}
use Rattle.qs_send.specs.Calls.{writes, finishes, resets, stops, asks_stop, sends, acks, loses, allows, buffers}
use Rattle.qs_send.specs.Parts.{bit, MovesParts}
use Rattle.qs_send.proofs.Runs.{due-nothing, nothing-due, unacked-empty, unacked-least, unacked-more}
use Rattle.std.proofs.lemmas.Grind.{common_steps}
use Rattle.std.proofs.lemmas.List.{drop_all}
use Rattle.qs_send.specs.Offsets.{AreOffsets, parts_at_rest, with_sent, with_acked, with_lost, reset_at}
use Rattle.qs_send.specs.declared.parts.SendFault.TheVariants.{Finished, WasReset}

-- Where no byte is due

at_end : (n : ℕ) (fin : Bool) → fin ≡ true → true ≡ (fin && (n + 0 == n))
at_end n fin e = grind (arith, nat_tests)

pub end_next : (s : Sending) (room fresh : ℕ) → IsLawful s → EndsBefore s.due.offsets 0 → s.due.fin ≡ true → 1 + short_len s.lane.id + offset_len s.lane.written < room → IsNextChunk s room fresh (record { offset = s.lane.written; len = 0; fin = true })
end_next s room fresh lawful none fin fits = grind (arith, nat_tests, short_len-zero, at_end)

-- a chunk without bytes carries the end, and stands there
pub empty_is_end : (s : Sending) (c : Chunk) → IsDueChunk s c → c.len ≡ 0 → (s.due.fin ≡ true) × (c.offset ≡ s.lane.written)
empty_is_end s c is empty = grind (arith, nat_tests)

pub end_too_long : (s : Sending) (room fresh : ℕ) → EndsBefore s.due.offsets 0 → room ≤ 1 + short_len s.lane.id + offset_len s.lane.written → HasNoChunk s room fresh
end_too_long s room fresh none short c ok = grind (arith, nat_tests, short_len-zero)

-- ---- Whether the room alone holds a chunk back: the longest one, whatever the room, tells it.

-- a room that each frame fits
abbrev AMPLE : ℕ
AMPLE = 18446744073709551615

frame_fits : (s : Sending) (c : Chunk) → IsLawful s → IsDueChunk s c → frame_len s.lane.id c.offset c.len ≤ AMPLE
frame_fits s c h due = grind (arith, nat_tests, short_len-most)

-- the longest one starts where each other one does
same_place : (s : Sending) (c d : Chunk) → IsLawful s → IsDueChunk s c → IsDueChunk s d → d.len ≤ c.len → c.offset ≡ d.offset
same_place s c d h is h2 le = grind (arith, nat_tests)

longer_frame : (id offset n m : ℕ) → n ≤ m → frame_len id offset n ≤ frame_len id offset m
longer_frame id offset n m le = let more = short_len-more n m le in omega (arith, le, more)

pub held_by : (s : Sending) (room fresh : ℕ) (c : Chunk) (len : ℕ) → IsNextChunk s AMPLE fresh c → len ≡ frame_len s.lane.id c.offset c.len → IsTrue (nat_lt room len) → IsHeldByRoom s room fresh
held_by s room fresh c len is exact long = grind (arith, nat_tests)

pub held_needs : (s : Sending) (room fresh : ℕ) (c : Chunk) (len : ℕ) → IsLawful s → IsNextChunk s AMPLE fresh c → len ≡ frame_len s.lane.id c.offset c.len → IsHeldByRoom s room fresh → IsTrue (nat_lt room len)
held_needs s room fresh c len h is exact held = grind (arith, nat_tests, frame_fits, same_place, longer_frame)

pub nothing_held : (s : Sending) (room fresh : ℕ) → IsLawful s → HasNoChunk s AMPLE fresh → IsHeldByRoom s room fresh → ⊥
nothing_held s room fresh h none held = grind (arith, nat_tests, frame_fits)

-- Where no chunk goes, the room is the cause or it isn't

no_bytes_frame : (id offset : ℕ) → frame_len id offset 0 ≤ 18
no_bytes_frame id offset = grind (arith, nat_tests, short_len-most, short_len-zero)

one_byte_frame : (id offset : ℕ) → frame_len id offset 1 ≤ 19
one_byte_frame id offset = grind (arith, nat_tests, short_len-most, short_len-one)

-- the first byte of a due chunk, alone
first_byte : (s : Sending) (c : Chunk) → IsDueChunk s c → 0 < c.len → IsDueChunk s (record { offset = c.offset; len = 1; fin = s.due.fin && (c.offset + 1 == s.lane.written) })
first_byte s c due some = grind (arith, nat_tests)

short_room : (s : Sending) (room fresh : ℕ) → HasNoChunk s room fresh → IsHeldByRoom s room fresh → room < 19
short_room s room fresh none held =
    let c = held.held in
    let long = held.too_long in
    elim (cases_lt room 19) [
      | inl lt ↦ lt
      | inr ge ↦ elim (cases_lt 0 c.len) [
        | inl some ↦
            let credit = held.within_credit in
            let fits = one_byte_frame s.lane.id c.offset in
            absurd (none (record { offset = c.offset; len = 1; fin = s.due.fin && (c.offset + 1 == s.lane.written) }) (record { chunk = first_byte s c held.chunk some; within_credit = omega (arith, credit, some); fits = omega (arith, fits, ge) }))
        | inr empty ↦
            let fits = no_bytes_frame s.lane.id c.offset in
            let zero_len : c.len ≡ 0 = omega (arith, empty) in
            let long' = rw zero_len at long in
            absurd (omega (arith, fits, ge, long'))
      ]
    ]

pub held_by_room_or_limits : HeldByRoomOrLimits
held_by_room_or_limits s room fresh h none = (
  λ held. short_room s room fresh none held,
  λ not_held ample c ok. elim (cases_lt room (frame_len s.lane.id c.offset c.len)) [
    | inl long ↦ not_held (record { held = c; chunk = ok.chunk; within_credit = ok.within_credit; too_long = long })
    | inr fits ↦ none c (record { chunk = ok.chunk; within_credit = ok.within_credit; fits = fits })
  ],
)

-- ---- Chunks in a packet: the next one is unique, one that is cut short is the last, and one is found where an offset may go.

-- Unique

pub next_chunk_is_unique : NextChunkIsUnique
next_chunk_is_unique s room fresh c d is h = grind (arith, nat_tests)

-- The last

some_bytes : (n : ℕ) (b : Bool) → 0 < n → (nat_lt 0 n || b) ≡ true
some_bytes n b some = grind (arith, nat_tests)

-- the offset after a chunk is the lowest that is due once it was sent
starts_after : (due : NumberSet) (from end at n : ℕ) → MissesRange due 0 from → IsTrue (set.contains due end) → from ≤ end → ContainsRange (set.difference due (numbers from end)) at (at + n) → MissesRange (set.difference due (numbers from end)) 0 at → 0 < n → at ≡ end
starts_after due from end at n lowest more le all low some =
    let has = all at (omega arith) (omega arith) in
    grind (arith, nat_tests, contains-without_range due from end at, contains-without_range due from end end)

still_due : (due : NumberSet) (from end : ℕ) → IsTrue (set.contains due end) → set.contains (set.difference due (numbers from end)) end ≡ true
still_due due from end more = grind (arith, nat_tests, contains-without_range due from end end)

joined : (due : NumberSet) (from n at m : ℕ) → at ≡ from + n → ContainsRange due from (from + n) → ContainsRange (set.difference due (numbers from (from + n))) at (at + m) → ContainsRange due from (from + (n + m))
joined due from n at m place first second q le lt =
    elim (cases_lt q (from + n)) [
      | inl below ↦ first q le below
      | inr ge ↦
          let has = second q (omega (arith, ge, place)) (omega (arith, lt, place)) in
          grind (arith, nat_tests, contains-without_range due from (from + n) q)
    ]

has_bytes : (s : Sending) (c : Chunk) → IsLawful s → IsDueChunk s c → IsTrue (set.contains s.due.offsets (c.offset + c.len)) → 0 < c.len
has_bytes s c h due more = grind (arith, nat_tests)

pub cut_chunk_is_last : CutChunkIsLast
cut_chunk_is_last s room fresh c h is more d ok =
    let chunk = is.allowed.chunk in
    let some = has_bytes s c h chunk more in
    elim (cases_lt 0 d.len) [
      | inr none ↦
          let place = (empty_is_end (after_sent s c) d ok.chunk (omega (arith, none))).1 in
          let below = h.parts.due_written (c.offset + c.len) more in
          both_ways _ (ok.chunk.lowest (c.offset + c.len) (omega arith) (omega (arith, place, below))) (still_due s.due.offsets c.offset (c.offset + c.len) more)
      | inl again ↦
          let place = starts_after s.due.offsets c.offset (c.offset + c.len) d.offset d.len chunk.lowest more (omega arith) ok.chunk.due ok.chunk.lowest again in
          let limit = ok.chunk.within_limit in
          let credit = ok.within_credit in
          let credit' = is.allowed.within_credit in
          let fits = ok.fits in
          let join = short_len-join c.len d.len in
          let one = short_len-some s.lane.id in
          let two = offset_len-some d.offset (omega (arith, place, some)) in
          let longer = is.longest (record { offset = c.offset; len = c.len + d.len; fin = s.due.fin && (c.offset + (c.len + d.len) == s.lane.written) }) (record {
            chunk = record {
              due = joined s.due.offsets c.offset c.len d.offset d.len place chunk.due ok.chunk.due;
              lowest = chunk.lowest;
              within_limit = omega (arith, limit, place);
              fin = refl;
              some = some_bytes (c.len + d.len) _ (omega (arith, some));
            };
            within_credit = omega (arith, credit, credit', place);
            fits = omega (arith, fits, join, one, two);
          }) in
          omega (arith, longer, again)
    ]

-- Enough room

abbrev HasLeast : NumberSet → ℕ → ℕ → Type 0
HasLeast s n last = (m : ℕ) × (IsLeastFrom s n m × (m ≤ last))

least_by : (s : NumberSet) (n most : ℕ) (b : Bool) → set.contains s n ≡ b → (set.contains s n ≡ false → HasLeast s (n + 1) (n + 1 + most)) → HasLeast s n (n + suc most)
least_by s n most b has rest = grind (arith, nat_tests)

least_of : (s : NumberSet) (most n : ℕ) → IsTrue (set.contains s (n + most)) → HasLeast s n (n + most)
least_of s zero n has = grind (arith, nat_tests)
least_of s (suc most) n has =
    let place : n + 1 + most ≡ n + suc most = omega arith in
    let has' : IsTrue (set.contains s (n + 1 + most)) = rw place has in
    least_by s n most (set.contains s n) refl (λ none. least_of s most (n + 1) has')

one_offset : (due : NumberSet) (m : ℕ) → IsTrue (set.contains due m) → ContainsRange due m (m + 1)
one_offset due m has q le lt = grind (arith, nat_tests)

next_credit : (m q sent_end fresh : ℕ) → m ≤ q → (q < sent_end) ⊎ ((q ≡ sent_end) × (0 < fresh)) → m + 1 ≤ sent_end + fresh
next_credit m q sent_end fresh le h = grind (arith, nat_tests)

at_zero : (due : NumberSet) (q : ℕ) → IsTrue (set.contains due q) → IsTrue (set.contains due (0 + q))
at_zero due q has = let place : 0 + q ≡ q = omega arith in rw place has

pub sendable_has_chunk : SendableHasChunk
sendable_has_chunk s room fresh q h enough can none =
    let found = least_of s.due.offsets q 0 (at_zero s.due.offsets q can.0) in
    let m = found.0 in
    let least = found.1.0 in
    let le = found.1.1 in
    let limit = can.1 in
    let id = short_len-most s.lane.id in
    let off = offset_len-most m in
    let one = short_len-one in
    none (record { offset = m; len = 1; fin = s.due.fin && (m + 1 == s.lane.written) }) (record {
      chunk = record {
        due = one_offset s.due.offsets m least.member;
        lowest = least.none_before;
        within_limit = omega (arith, le, limit);
        fin = refl;
        some = refl;
      };
      within_credit = next_credit m q s.lane.sent_end fresh (omega (arith, le)) can.2;
      fits = omega (arith, id, off, one, enough);
    })

-- Where the end is due and every byte was sent

member_or_none : (s : NumberSet) (n : ℕ) → ((q : ℕ) × IsTrue (set.contains s q)) ⊎ ((q : ℕ) → q < n → set.contains s q ≡ false)
member_or_none s zero = inr (λ q lt. absurd (omega (arith, lt)))
member_or_none s (suc n) = at_last (set.contains s n) refl (member_or_none s n)
  where
    at_last : (b : Bool) → set.contains s n ≡ b → ((q : ℕ) × IsTrue (set.contains s q)) ⊎ ((q : ℕ) → q < n → set.contains s q ≡ false) → ((q : ℕ) × IsTrue (set.contains s q)) ⊎ ((q : ℕ) → q < suc n → set.contains s q ≡ false)
    at_last b e (inl found) = inl found
    at_last true e (inr below) = inl (n, e)
    at_last false e (inr below) = grind (arith, nat_tests)

none_from : (due : NumberSet) (w : ℕ) → AllBelow due w → ((q : ℕ) → q < w → set.contains due q ≡ false) → EndsBefore due 0
none_from due w below none q le = grind (arith, nat_tests, below q)

pub sendable_end_has_chunk : SendableEndHasChunk
sendable_end_has_chunk s room fresh h enough due sent none =
    elim (member_or_none s.due.offsets s.lane.written) [
      | inl found ↦
          let below = h.parts.due_written found.0 found.1 in
          let limit = h.order.sent_limit in
          sendable_has_chunk s room fresh found.0 h enough (found.1, omega (arith, below, sent, limit), inl (omega (arith, below, sent))) none
      | inr nothing ↦
          let id = short_len-most s.lane.id in
          let off = offset_len-most s.lane.written in
          none _ (end_next s room fresh h (none_from s.due.offsets s.lane.written h.parts.due_written nothing) due (omega (arith, id, off, enough))).allowed
    ]

-- ---- Each written offset is acknowledged, due or in flight, and what each call moves.

-- what is neither acknowledged nor due, of so many written offsets
abbrev rest : ℕ → NumberSet → NumberSet → NumberSet
rest w acked due = set.difference (set.difference (numbers 0 w) acked) due

contains-rest : (w : ℕ) (acked due : NumberSet) (q : ℕ) → set.contains (rest w acked due) q ≡ (nat_lt q w && not (set.contains acked q) && not (set.contains due q))
contains-rest w acked due q = grind (arith, nat_tests, has_difference, contains-numbers)

-- One part

one_of : (a d b : Bool) → (a ≡ true → b ≡ true) → (d ≡ true → b ≡ true) → (d ≡ true → a ≡ false) → bit a + bit d + bit (b && not a && not d) ≡ (if b then 1 else 0)
one_of a d b is_written is_due apart = grind (arith, nat_tests)

pub each_offset_is_in_one_part : EachOffsetIsInOnePart
each_offset_is_in_one_part s h q = grind (arith, nat_tests, contains-rest, one_of)

sent_by_then : (w e q : ℕ) (acked due : NumberSet) → ContainsRange due e w → IsTrue (set.contains (rest w acked due) q) → q < e
sent_by_then w e q acked due unsent has = grind (arith, nat_tests, contains-rest)

not_reset : (r : Option Reset) → r ≡ None → is_some r ≡ false
not_reset r e = grind (arith, nat_tests)

pub in_flight_was_sent : InFlightWasSent
in_flight_was_sent s h none q has =
    sent_by_then s.lane.written s.lane.sent_end q s.lane.acked s.due.offsets (h.parts.unsent_due (not_reset s.lane.was_reset none)) has

-- What moves

rest-write : (w n : ℕ) (acked due : NumberSet) → rest (w + n) acked (set.union due (numbers w (w + n))) ≡ rest w acked due
rest-write w n acked due =
    same_numbers _ _ (λ q. grind (arith, nat_tests, contains-rest (w + n) acked (set.union due (numbers w (w + n))) q, contains-rest w acked due q, contains-with_range due w (w + n) q))

rest-reset : (w : ℕ) (acked due : NumberSet) → AllBelow due w → AreDisjoint due acked → rest w acked set.empty ≡ set.union (rest w acked due) due
rest-reset w acked due below apart =
    same_numbers _ _ (λ q. grind (arith, nat_tests, contains-rest w acked set.empty q, set.contains-empty nat_cmp q, has_union (rest w acked due) due q, contains-rest w acked due q, below q))

rest-sent : (w from end : ℕ) (acked due : NumberSet) → AllBelow due w → AreDisjoint due acked → ContainsRange due from end → rest w acked (set.difference due (numbers from end)) ≡ set.union (rest w acked due) (numbers from end)
rest-sent w from end acked due below apart all =
    same_numbers _ _ (λ q. grind (arith, nat_tests, contains-rest w acked (set.difference due (numbers from end)) q, contains-without_range due from end q, contains-with_range (rest w acked due) from end q, contains-rest w acked due q, apart q))

rest-acked : (w from end : ℕ) (acked due : NumberSet) → rest w (set.union acked (numbers from end)) (set.difference due (numbers from end)) ≡ set.difference (rest w acked due) (numbers from end)
rest-acked w from end acked due =
    same_numbers _ _ (λ q. grind (arith, nat_tests, contains-rest w (set.union acked (numbers from end)) (set.difference due (numbers from end)) q, contains-without_range due from end q, contains-with_range acked from end q, contains-without_range (rest w acked due) from end q, contains-rest w acked due q))

rest-lost : (w from end : ℕ) (acked due : NumberSet) → rest w acked (set.union due (set.difference (numbers from end) acked)) ≡ set.difference (rest w acked due) (numbers from end)
rest-lost w from end acked due =
    same_numbers _ _ (λ q. grind (arith, nat_tests, contains-rest w acked (set.union due (set.difference (numbers from end) acked)) q, has_union due (set.difference (numbers from end) acked) q, has_difference (numbers from end) acked q, contains-numbers from end q, contains-without_range (rest w acked due) from end q, contains-rest w acked due q))

reset_moves : (s : Sending) (code : ℕ) (r : Reset) (b : Bool) → IsLawful s → is_some (reset_refusal s.lane) ≡ b
    → MovesParts s (resets code) (record { lane = if b then s.lane else record s.lane { kept = []; was_reset = Some r }; due = if b then s.due else record { offsets = set.empty; fin = false } })
reset_moves s code r b h e = grind (arith, nat_tests, rest-reset)

stopped_moves : (s : Sending) (code : ℕ) (r : Reset) (first : Option ℕ) (b : Bool) → IsLawful s → is_some (reset_refusal s.lane) ≡ b
    → MovesParts s (stops code) (record { lane = if b then s.lane else record s.lane { kept = []; was_reset = Some r; stopped = first }; due = if b then s.due else record { offsets = set.empty; fin = false } })
stopped_moves s code r first b h e = grind (arith, nat_tests, rest-reset)

lost_moves : (s : Sending) (c : Chunk) (b : Bool) → b ≡ false → MovesParts s (loses c) (if b then s else record s { due = lost_due s.lane s.due c })
lost_moves s c b open_lane = grind (arith, nat_tests, rest-lost)

pub calls_move_parts : CallsMoveParts
calls_move_parts s (writes bytes) h none may = record { acked = refl; due = refl; in_flight = rest-write s.lane.written (length bytes) s.lane.acked s.due.offsets }
calls_move_parts s finishes h none may = cond_both (is_some (refusal s.lane)) s _ (MovesParts s finishes) (λ _. record { acked = refl; due = refl; in_flight = refl }) (λ _. record { acked = refl; due = refl; in_flight = refl })
calls_move_parts s (resets code) h none may = reset_moves s code _ (is_some (reset_refusal s.lane)) h refl
calls_move_parts s (stops code) h none may = stopped_moves s code _ _ (is_some (reset_refusal s.lane)) h refl
calls_move_parts s (asks_stop code) h none may = cond_both (is_some (reset_refusal s.lane)) s.lane _ (λ l. MovesParts s (asks_stop code) (record s { lane = l })) (λ _. record { acked = refl; due = refl; in_flight = refl }) (λ _. record { acked = refl; due = refl; in_flight = refl })
calls_move_parts s (sends chunk) h none may = grind (arith, nat_tests, rest-sent)
calls_move_parts s (acks chunk) h none may = record { acked = refl; due = refl; in_flight = rest-acked s.lane.written chunk.offset (chunk.offset + chunk.len) s.lane.acked s.due.offsets }
calls_move_parts s (loses chunk) h none may = lost_moves s chunk (is_some s.lane.was_reset) (not_reset s.lane.was_reset none)
calls_move_parts _ _ _ _ _ = record { acked = refl; due = refl; in_flight = refl }

-- ---- Each call keeps what holds of a lane.

pub lawful_new : (id limit buffer : ℕ) → id ≤ MAX_VARINT → limit ≤ MAX_VARINT → IsLawful (new_sending id limit buffer)
lawful_new id limit buffer small_id small_limit =
    record {
      order = record { small_id = small_id; small = omega arith; small_limit = small_limit; sent_written = omega arith; sent_limit = omega arith; reset_size = λ r e. absurd (cc) };
      bytes = record { from = λ _. omega (arith, unacked-empty); let_go = λ _. refl; buffered = omega arith; widest = omega arith };
      parts = record {
        acked_sent = AllBelow-empty 0;
        due_written = AllBelow-empty 0;
        apart = λ q has. absurd (both_ways _ (set.contains-empty nat_cmp q) has);
        unsent_due = λ _ q le lt. absurd (omega (arith, le, lt));
        none_due = λ e. refl;
      };
      ends = record {
        sent_whole = λ e. refl;
        sent_asked = λ e. e;
        acked_sent = λ e. e;
        due_asked = λ e. e;
        due_open = λ e. refl;
        due_first = λ _ e _. e;
        none_due = λ e. refl;
      };
    }

-- What was noted lies below what was written

pub below_more : (noted : NumberSet) (w from end w' : ℕ) → w ≤ w' → end ≤ w' → AllBelow noted w → AllBelow (set.union noted (numbers from end)) w'
below_more noted w from end w' le fits below q has = grind (arith, nat_tests, contains-with_range noted from end q)

-- Writing

parts_write : (w e n : ℕ) (acked due : NumberSet) (r : Bool) → r ≡ false → e ≤ w → ArePartsOf w e acked due r → ArePartsOf (w + n) e acked (set.union due (numbers w (w + n))) r
parts_write w e n acked due r open_lane le h = grind (arith, nat_tests, contains-with_range)

ends_write : (w e w' : ℕ) (f s a d r : Bool) → f ≡ false → IsEnded w e f s a d r → IsEnded w' e f s a d r
ends_write w e w' f s a d r not_yet h = grind (arith, nat_tests)

-- a write of nothing
pub write_nothing : (s : Sending) → s ≡ after_write s []
write_nothing s = grind (arith, nat_tests, append-nil, due-nothing)

pub lawful_write : (s : Sending) (bytes : List ℕ) → is_some s.lane.was_reset ≡ false → s.lane.finished ≡ false → s.lane.written + length bytes ≤ MAX_VARINT → length s.lane.kept + length bytes ≤ s.lane.widest → IsLawful s → IsLawful (after_write s bytes)
lawful_write s bytes open_lane not_yet small fits h =
    let sent = h.order.sent_written in
    let from = h.bytes.from open_lane in
    let len = length-append s.lane.kept bytes in
    record {
      order = record { small_id = h.order.small_id; small = small; small_limit = h.order.small_limit; sent_written = omega (arith, sent); sent_limit = h.order.sent_limit; reset_size = h.order.reset_size };
      bytes = record { from = λ _. omega (arith, len, from); let_go = λ is. absurd (both_ways _ open_lane is); buffered = omega (arith, len, fits); widest = h.bytes.widest };
      parts = parts_write _ _ _ _ _ _ open_lane sent h.parts;
      ends = ends_write _ _ _ _ _ _ _ _ not_yet h.ends;
    }

-- A reset

-- the end is sent with or after the last byte, so the final size is the sent end
pub reset_size-is : (s : Sending) → IsLawful s → (if s.lane.fin_sent then s.lane.written else s.lane.sent_end) ≡ s.lane.sent_end
reset_size-is s h = grind (arith, nat_tests)

one_reset : (r t : Reset) → Some r ≡ Some t → r ≡ t
one_reset r t e = cc

pub lawful_reset : (s : Sending) (r : Reset) → r.size ≡ s.lane.sent_end → IsLawful s → IsLawful (record { lane = record s.lane { kept = []; was_reset = Some r }; due = record { offsets = set.empty; fin = false } })
lawful_reset s r size h =
    record {
      order = record { small_id = h.order.small_id; small = h.order.small; small_limit = h.order.small_limit; sent_written = h.order.sent_written; sent_limit = h.order.sent_limit; reset_size = λ t e. rw (← one_reset r t e) size };
      bytes = record { from = λ is. absurd (both_ways true is refl); let_go = λ _. refl; buffered = omega arith; widest = h.bytes.widest };
      parts = record {
        acked_sent = h.parts.acked_sent;
        due_written = AllBelow-empty s.lane.written;
        apart = λ q has. absurd (both_ways _ (set.contains-empty nat_cmp q) has);
        unsent_due = λ is. absurd (both_ways true is refl);
        none_due = λ _. refl;
      };
      ends = record {
        sent_whole = h.ends.sent_whole;
        sent_asked = h.ends.sent_asked;
        acked_sent = h.ends.acked_sent;
        due_asked = λ is. absurd (both_ways false refl is);
        due_open = λ is. absurd (both_ways false refl is);
        due_first = λ is. absurd (both_ways true is refl);
        none_due = λ _. refl;
      };
    }

-- Sending

parts_sent : (w e from end : ℕ) (acked due : NumberSet) (r : Bool) → e ≤ w → end ≤ w → MissesRange due 0 from → ArePartsOf w e acked due r → ArePartsOf w (max e end) acked (set.difference due (numbers from end)) r
parts_sent w e from end acked due r sent within lowest h =
    record {
      acked_sent = λ q has. let below = h.acked_sent q has in omega (arith, below);
      due_written = λ q has. grind (arith, nat_tests, contains-without_range due from end q);
      apart = λ q has. grind (arith, nat_tests, contains-without_range due from end q);
      unsent_due = λ o q ge lt. grind (arith, nat_tests, contains-without_range due from end q);
      none_due = λ is. same_numbers _ _ (λ q. grind (arith, nat_tests, contains-without_range due from end q, set.contains-empty nat_cmp q));
    }

ends_sent : (w e end : ℕ) (f s a d r c : Bool) → c ≡ (d && (end == w)) → end ≤ w → e ≤ w → IsEnded w e f s a d r → IsEnded w (max e end) f (s || c) a (d && not c) r
ends_sent w e end f s a d r c is within le h = grind (arith, nat_tests)

-- where no offset is due a chunk is empty
pub empty_chunk : (due : NumberSet) (from len : ℕ) → due ≡ set.empty → ContainsRange due from (from + len) → len ≡ 0
empty_chunk due from zero none all = refl
empty_chunk due from (suc n) none all =
    let has = all from (omega arith) (omega arith) in
    let has' : IsTrue (set.contains set.empty from) = rw none at has in
    absurd (both_ways _ (set.contains-empty nat_cmp from) has')

-- a due chunk lies within what was written
chunk_within : (due : NumberSet) (w from len : ℕ) (c d : Bool) → AllBelow due w → ContainsRange due from (from + len) → c ≡ (d && (from + len == w)) → (nat_lt 0 len || c) ≡ true → from + len ≤ w
chunk_within due w from len c d below all is some = grind (arith, nat_tests)

pub due_within : (s : Sending) (c : Chunk) → IsDueChunk s c → IsLawful s → c.offset + c.len ≤ s.lane.written
due_within s c due h = chunk_within _ _ c.offset c.len c.fin s.due.fin h.parts.due_written due.due due.fin due.some

-- after a reset there is no due chunk
pub none_due : (s : Sending) (c : Chunk) → IsDueChunk s c → IsLawful s → is_some s.lane.was_reset ≡ false
none_due s c due h = grind (arith, nat_tests, empty_chunk)

reset_then : (r : Option Reset) (t : Reset) → is_some r ≡ false → r ≡ Some t → ⊥
reset_then r t none e = absurd (cc)

pub lawful_sent : (s : Sending) (c : Chunk) → IsDueChunk s c → IsLawful s → IsLawful (after_sent s c)
lawful_sent s c due h =
    let sent = h.order.sent_written in
    let limit = h.order.sent_limit in
    let fits = due.within_limit in
    let within = due_within s c due h in
    record {
      order = record { small_id = h.order.small_id; small = h.order.small; small_limit = h.order.small_limit; sent_written = omega (arith, sent, within); sent_limit = omega (arith, limit, fits); reset_size = λ t e. absurd (reset_then _ t (none_due s c due h) e) };
      bytes = record { from = h.bytes.from; let_go = h.bytes.let_go; buffered = h.bytes.buffered; widest = h.bytes.widest };
      parts = parts_sent _ _ _ _ _ _ _ sent within due.lowest h.parts;
      ends = ends_sent _ _ _ _ _ _ _ _ _ due.fin within sent h.ends;
    }

-- Acknowledgement

parts_acked : (w e from end : ℕ) (acked due : NumberSet) (r : Bool) → end ≤ e → ArePartsOf w e acked due r → ArePartsOf w e (set.union acked (numbers from end)) (set.difference due (numbers from end)) r
parts_acked w e from end acked due r sent h =
    record {
      acked_sent = λ q has. grind (arith, nat_tests, contains-with_range acked from end q);
      due_written = λ q has. grind (arith, nat_tests, contains-without_range due from end q);
      apart = λ q has. grind (arith, nat_tests, contains-without_range due from end q, contains-with_range acked from end q);
      unsent_due = λ o q ge lt. grind (arith, nat_tests, contains-without_range due from end q);
      none_due = λ is. same_numbers _ _ (λ q. grind (arith, nat_tests, contains-without_range due from end q, set.contains-empty nat_cmp q));
    }

ends_acked : (w e : ℕ) (f s a d r c : Bool) → (c ≡ true → s ≡ true) → IsEnded w e f s a d r → IsEnded w e f s (a || c) (d && not c) r
ends_acked w e f s a d r c sent h = grind (arith, nat_tests)

pub more_acked : (acked : NumberSet) (from end q : ℕ) → IsTrue (set.contains acked q) → IsTrue (set.contains (set.union acked (numbers from end)) q)
more_acked acked from end q has = grind (arith, nat_tests, contains-with_range acked from end q)

-- the lowest offset not acknowledged moves up, within what was written
pub unacked_moves : (l : SendLane) (c : Chunk) → WasSent l c → AllBelow l.acked l.sent_end → l.sent_end ≤ l.written → (unacked_from l ≤ missing_from (set.union l.acked (numbers c.offset (c.offset + c.len))) 0) × (missing_from (set.union l.acked (numbers c.offset (c.offset + c.len))) 0 ≤ l.written)
unacked_moves l c sent below le =
    let first = unacked-least l.acked l.sent_end l.written below le in
    let second = unacked-least (set.union l.acked (numbers c.offset (c.offset + c.len))) l.sent_end l.written (AllBelow-with_range _ _ _ _ below sent.offsets) le in
    (unacked-more _ _ _ _ first.0 second.0 (more_acked l.acked c.offset (c.offset + c.len)), second.1)

pub lawful_acked : (s : Sending) (c : Chunk) → WasSent s.lane c → IsLawful s → IsLawful (after_acked s c)
lawful_acked s c sent h =
    let moves = unacked_moves s.lane c sent h.parts.acked_sent h.order.sent_written in
    let up = moves.0 in
    let within = moves.1 in
    let fits = h.bytes.buffered in
    let len = length-drop (missing_from (set.union s.lane.acked (numbers c.offset (c.offset + c.len))) 0 - unacked_from s.lane) s.lane.kept in
    record {
      order = record { small_id = h.order.small_id; small = h.order.small; small_limit = h.order.small_limit; sent_written = h.order.sent_written; sent_limit = h.order.sent_limit; reset_size = h.order.reset_size };
      bytes = record {
        from = λ is. let from = h.bytes.from is in omega (arith, len, up, within, from);
        let_go = grind (arith, nat_tests);
        buffered = omega (arith, len, fits);
        widest = h.bytes.widest;
      };
      parts = parts_acked _ _ _ _ _ _ _ sent.offsets h.parts;
      ends = ends_acked _ _ _ _ _ _ _ _ sent.end h.ends;
    }

-- Loss

parts_lost : (w e from end : ℕ) (acked due : NumberSet) (r : Bool) → r ≡ false → end ≤ e → e ≤ w → ArePartsOf w e acked due r → ArePartsOf w e acked (set.union due (set.difference (numbers from end) acked)) r
parts_lost w e from end acked due r open_lane sent le h = grind (arith, nat_tests, has_union, has_difference, contains-numbers, none_due)

ends_lost : (w e : ℕ) (f s a d r c : Bool) → r ≡ false → (c ≡ true → s ≡ true) → IsEnded w e f s a d r → IsEnded w e f s a (d || (c && not a)) r
ends_lost w e f s a d r c open_lane sent h = grind (arith, nat_tests)

pub lawful_lost : (s : Sending) (c : Chunk) → is_some s.lane.was_reset ≡ false → WasSent s.lane c → IsLawful s → IsLawful (record s { due = lost_due s.lane s.due c })
lawful_lost s c open_lane sent h =
    record {
      order = h.order;
      bytes = h.bytes;
      parts = parts_lost _ _ _ _ _ _ _ open_lane sent.offsets h.order.sent_written h.parts;
      ends = ends_lost _ _ _ _ _ _ _ _ open_lane sent.end h.ends;
    }

-- ---- Written offsets: each step keeps what holds of them, those at rest stay so, and they are once each is acknowledged.

-- At rest

more_of_all : (lo hi n : ℕ) → hi ≤ n → set.union (numbers 0 n) (numbers lo hi) ≡ numbers 0 n
more_of_all lo hi n le = same_numbers _ _ (λ q. grind (arith, nat_tests, contains-with_range (numbers 0 n) lo hi q, contains-numbers 0 n q))

none_lost : (lo hi n : ℕ) → hi ≤ n → set.union set.empty (set.difference (numbers lo hi) (numbers 0 n)) ≡ set.empty
none_lost lo hi n le =
    same_numbers _ _ (λ q. grind (arith, nat_tests, has_union set.empty (set.difference (numbers lo hi) (numbers 0 n)) q, has_difference (numbers lo hi) (numbers 0 n) q, contains-numbers lo hi q, contains-numbers 0 n q))

pub rest_sent : (n end : ℕ) → end ≤ n → parts_at_rest n ≡ with_sent (parts_at_rest n) end
rest_sent n end le = let same : max n end ≡ n = omega arith in rw (nothing-due (numbers 0 end), same) refl

pub rest_acked : (n lo hi : ℕ) → hi ≤ n → parts_at_rest n ≡ with_acked (parts_at_rest n) lo hi
rest_acked n lo hi le = rw (drop_all {X = ℕ} (missing_from (set.union (numbers 0 n) (numbers lo hi)) 0 - missing_from (numbers 0 n) 0) [] (omega arith), more_of_all lo hi n le, nothing-due (numbers lo hi)) refl

pub rest_lost : (n lo hi : ℕ) → hi ≤ n → parts_at_rest n ≡ with_lost (parts_at_rest n) lo hi
rest_lost n lo hi le = rw (none_lost lo hi n le) refl

pub rest_missing : (n : ℕ) → n ≡ missing_from (numbers 0 n) 0
rest_missing n =
    missing_from-of (numbers 0 n) 0 n (record {
      from = omega arith;
      missing = grind (arith, nat_tests, contains-numbers 0 n n);
      all_before = λ q low below. grind (arith, nat_tests, contains-numbers 0 n q);
    })

pub offsets_at_rest : (n : ℕ) → n ≤ MAX_VARINT → AreOffsets n n [] (numbers 0 n) set.empty
offsets_at_rest n small =
    record {
      small = small;
      sent_written = omega arith;
      acked_sent = λ q has. grind (arith, nat_tests, contains-numbers 0 n q);
      noted_written = AllBelow-empty n;
      kept_from = λ some. absurd (omega (arith, some));
    }

pub nothing_kept : (kept : List ℕ) → length kept ≤ 0 → kept ≡ []
nothing_kept kept le = grind (arith, common_steps)

pub all_sent : (w e : ℕ) (acked : NumberSet) → AllBelow acked e → e ≤ w → IsLeastMissingFrom acked 0 w → e ≡ w
all_sent w e acked below le is = grind (arith, nat_tests)

-- where each is acknowledged they are at rest
pub rests_when : (w e : ℕ) (kept : List ℕ) (acked noted : NumberSet) → AreOffsets w e kept acked noted → IsLeastMissingFrom acked 0 w → record { written = w; kept = kept; acked = acked; due = set.difference noted acked; sent_end = e } ≡ parts_at_rest w
rests_when w e kept acked noted h is =
    let low = missing_from-of acked 0 w is in
    let none = nothing_kept kept (grind (arith, h.kept_from)) in
    let all : acked ≡ numbers 0 w = same_numbers _ _ (λ q. grind (arith, nat_tests, contains-numbers 0 w q, h.acked_sent q)) in
    let idle : set.difference noted acked ≡ set.empty = same_numbers _ _ (λ q. grind (arith, nat_tests, has_difference noted acked q, set.contains-empty nat_cmp q, is.all_before q)) in
    rw (idle, none, all, all_sent w e acked h.acked_sent h.sent_written is) refl

-- Steps

pub offsets_written : (w e : ℕ) (kept bytes : List ℕ) (acked noted : NumberSet) → missing_from acked 0 + length kept ≡ w → w + length bytes ≤ MAX_VARINT → AreOffsets w e kept acked noted → AreOffsets (w + length bytes) e (kept ++ bytes) acked (set.union noted (numbers w (w + length bytes)))
offsets_written w e kept bytes acked noted from small h =
    let len = length-append kept bytes in
    let sent = h.sent_written in
    record {
      small = small;
      sent_written = omega (arith, sent);
      acked_sent = h.acked_sent;
      noted_written = below_more noted w w (w + length bytes) (w + length bytes) (omega arith) (omega arith) h.noted_written;
      kept_from = λ _. omega (arith, len, from);
    }

pub offsets_sent : (w e end : ℕ) (kept : List ℕ) (acked noted : NumberSet) → end ≤ w → AreOffsets w e kept acked noted → AreOffsets w (max e end) kept acked (set.difference noted (numbers 0 end))
offsets_sent w e end kept acked noted le h =
    let sent = h.sent_written in
    record {
      small = h.small;
      sent_written = omega (arith, sent, le);
      acked_sent = λ q has. let below = h.acked_sent q has in omega (arith, below);
      noted_written = AllBelow-difference noted _ w h.noted_written;
      kept_from = h.kept_from;
    }

pub offsets_lost : (w e lo hi : ℕ) (kept : List ℕ) (acked noted : NumberSet) → hi ≤ e → AreOffsets w e kept acked noted → AreOffsets w e kept acked (set.union noted (numbers lo hi))
offsets_lost w e lo hi kept acked noted le h =
    let sent = h.sent_written in
    record {
      small = h.small;
      sent_written = sent;
      acked_sent = h.acked_sent;
      noted_written = below_more noted w lo hi w (omega arith) (omega (arith, le, sent)) h.noted_written;
      kept_from = h.kept_from;
    }

pub offsets_without : (w e : ℕ) (kept : List ℕ) (acked noted : NumberSet) → AreOffsets w e kept acked noted → AreOffsets w e [] acked (set.difference noted (numbers 0 w))
offsets_without w e kept acked noted h =
    record {
      small = h.small;
      sent_written = h.sent_written;
      acked_sent = h.acked_sent;
      noted_written = AllBelow-difference noted _ w h.noted_written;
      kept_from = λ some. absurd (omega (arith, some));
    }

-- how far the lowest offset not acknowledged moves up
pub low_moves : (w e lo hi low : ℕ) (acked : NumberSet) → AllBelow acked e → e ≤ w → hi ≤ e → IsLeastMissingFrom (set.union acked (numbers lo hi)) 0 low → (missing_from acked 0 ≤ low) × (low ≤ w)
low_moves w e lo hi low acked below sent le is =
    let first = unacked-least acked e w below sent in
    let second = unacked-least (set.union acked (numbers lo hi)) e w (AllBelow-with_range acked lo hi e below le) sent in
    let same = missing_from-of (set.union acked (numbers lo hi)) 0 low is in
    (unacked-more acked (set.union acked (numbers lo hi)) _ _ first.0 is (more_acked acked lo hi), omega (arith, second.1, same))

-- which is what a look-up finds
pub low_found : (acked : NumberSet) (lo hi low : ℕ) → IsLeastMissingFrom (set.union acked (numbers lo hi)) 0 low → missing_from (set.union acked (numbers lo hi)) 0 ≡ low
low_found acked lo hi low is = sym (missing_from-of (set.union acked (numbers lo hi)) 0 low is)

-- what is let go, as the code counts it
pub gone_is : (w missing low : ℕ) (kept : List ℕ) → (0 < length kept → missing + length kept ≡ w) → drop (low - (w - length kept)) kept ≡ drop (low - missing) kept
gone_is w missing low kept from = grind (arith, nat_tests)

pub offsets_acked : (w e lo hi : ℕ) (kept : List ℕ) (acked noted noted' : NumberSet) → hi ≤ e → ((q : ℕ) → IsTrue (set.contains noted' q) → IsTrue (set.contains noted q)) → AreOffsets w e kept acked noted → AreOffsets w e (drop (missing_from (set.union acked (numbers lo hi)) 0 - missing_from acked 0) kept) (set.union acked (numbers lo hi)) noted'
offsets_acked w e lo hi kept acked noted noted' le fewer h =
    let more = set.union acked (numbers lo hi) in
    let second = unacked-least more e w (AllBelow-with_range acked lo hi e h.acked_sent le) h.sent_written in
    let moves = low_moves w e lo hi (missing_from more 0) acked h.acked_sent h.sent_written le second.0 in
    let up = moves.0 in
    let within = moves.1 in
    let len = length-drop (missing_from more 0 - missing_from acked 0) kept in
    record {
      small = h.small;
      sent_written = h.sent_written;
      acked_sent = AllBelow-with_range acked lo hi e h.acked_sent le;
      noted_written = λ q has. h.noted_written q (fewer q has);
      kept_from = λ some. let from = h.kept_from (omega (arith, some, len)) in omega (arith, len, up, within, from);
    }

-- Resets

-- where there was none, the sent end may move
pub none_at : (e e' : ℕ) (code : Option ℕ) → is_some (reset_at e code) ≡ false → reset_at e' code ≡ reset_at e code
none_at e e' code none = grind (arith, nat_tests)

-- a chunk that is sent has the lowest due offsets
pub lowest_sent : (due : NumberSet) (from end : ℕ) → MissesRange due 0 from → set.difference due (numbers 0 end) ≡ set.difference due (numbers from end)
lowest_sent due from end lowest =
    same_numbers _ _ (λ q. grind (arith, nat_tests, contains-without_range due 0 end q, contains-without_range due from end q))

-- ---- Each call keeps what holds of a half, and the final size; only new bytes move the sent end.

-- What isn't refused

pub not_refused : (r f : Bool) → (if r then Some WasReset else (if f then Some Finished else None)) ≡ None → (r ≡ false) × (f ≡ false)
not_refused r f e = grind (arith, nat_tests)

-- what a test chooses has what both have
pub stays : {A X : Type 0} (f : A → X) (b : Bool) (x y : A) → f y ≡ f x → f (if b then x else y) ≡ f x
stays f b x y same = grind (arith, nat_tests)

-- What holds of a half

reset_by : (s : Sending) (code : ℕ) (b : Bool) → IsLawful s → IsLawful (record {
  lane = if b then s.lane else record s.lane { kept = []; was_reset = Some (record { code = code; size = if s.lane.fin_sent then s.lane.written else s.lane.sent_end }) };
  due = if b then s.due else record { offsets = set.empty; fin = false };
})
reset_by s code true h = h
reset_by s code false h = lawful_reset s _ (reset_size-is s h) h

lost_by : (s : Sending) (c : Chunk) (b : Bool) → is_some s.lane.was_reset ≡ b → WasSent s.lane c → IsLawful s → IsLawful (if b then s else record s { due = lost_due s.lane s.due c })
lost_by s c b e sent h = grind (arith, nat_tests, lawful_lost)

-- which code is kept has no part in what is lawful
pub lawful_kept : (s : Sending) (code : Option ℕ) → IsLawful s → IsLawful (record s { lane = record s.lane { stopped = code } })
lawful_kept s code h =
    record { order = record { small_id = h.order.small_id; small = h.order.small; small_limit = h.order.small_limit; sent_written = h.order.sent_written; sent_limit = h.order.sent_limit; reset_size = h.order.reset_size }; bytes = record { from = h.bytes.from; let_go = h.bytes.let_go; buffered = h.bytes.buffered; widest = h.bytes.widest }; parts = h.parts; ends = h.ends }

-- the code of a STOP_SENDING is all that it keeps beside what a reset does
stopped_by : (s : Sending) (code : ℕ) (b : Bool) → IsLawful s → IsLawful (record {
  lane = if b then s.lane else record (broken_off s.lane code) { stopped = first_code s.lane.stopped code };
  due = if b then s.due else record { offsets = set.empty; fin = false };
})
stopped_by s code true h = h
stopped_by s code false h = lawful_kept (record { lane = broken_off s.lane code; due = record { offsets = set.empty; fin = false } }) (first_code s.lane.stopped code) (reset_by s code false h)

-- and all that it keeps where the owner answers it
noted_by : (s : Sending) (code : ℕ) (b : Bool) → IsLawful s → IsLawful (record s { lane = if b then s.lane else record s.lane { stopped = first_code s.lane.stopped code } })
noted_by s code b h = grind (arith, nat_tests)

pub calls_keep_lawful : CallsKeepLawful
calls_keep_lawful s (writes bytes) h may =
    let free = not_refused _ _ may.0 in
    let le = may.1 in
    let small = h.order.small in
    let buffered = h.bytes.buffered in
    let widest = h.bytes.widest in
    lawful_write s bytes free.0 free.1 (omega (arith, le, small)) (omega (arith, le, buffered, widest)) h
calls_keep_lawful s finishes h may = grind (arith, nat_tests)
calls_keep_lawful s (resets code) h may = reset_by s code (is_some (reset_refusal s.lane)) h
calls_keep_lawful s (stops code) h may = stopped_by s code (is_some (reset_refusal s.lane)) h
calls_keep_lawful s (asks_stop code) h may = noted_by s code (is_some (reset_refusal s.lane)) h
calls_keep_lawful s (allows limit) h may = grind (arith, nat_tests)
calls_keep_lawful s (buffers size) h may = grind (arith, nat_tests)
calls_keep_lawful s (sends chunk) h may = lawful_sent s chunk may h
calls_keep_lawful s (acks chunk) h may = lawful_acked s chunk may h
calls_keep_lawful s (loses chunk) h may = lost_by s chunk (is_some s.lane.was_reset) refl may h
calls_keep_lawful _ _ h _ = grind (arith, nat_tests)

-- The final size

pub declared_size_stays : DeclaredSizeStays
declared_size_stays s h size h2 may is = grind (arith, nat_tests)

-- Credit

-- all that was never sent is due, so a chunk starts at the sent end or before it
starts_by : (s : Sending) (c : Chunk) → IsDueChunk s c → IsLawful s → c.offset ≤ s.lane.sent_end
starts_by s c due h = grind (arith, nat_tests, none_due)

new_bytes : (from end e : ℕ) → from ≤ e → ContainsRange (numbers from end) e (max e end)
new_bytes from end e le q ge lt = grind (arith, nat_tests, contains-numbers from end q)

nothing_new : (sent : NumberSet) (e f : ℕ) → f ≡ e → (e ≤ f) × ContainsRange sent e f
nothing_new sent e f same = (omega arith, λ q ge lt. absurd (omega (arith, ge, lt, same)))

pub only_new_bytes_spend : OnlyNewBytesSpend
only_new_bytes_spend s finishes h may = nothing_new _ _ _ (stays (λ (x : Sending). x.lane.sent_end) (is_some (refusal s.lane)) s _ refl)
only_new_bytes_spend s (resets code) h may = nothing_new _ _ _ (stays (λ (l : SendLane). l.sent_end) (is_some (reset_refusal s.lane)) s.lane _ refl)
only_new_bytes_spend s (stops code) h may = nothing_new _ _ _ (stays (λ (l : SendLane). l.sent_end) (is_some (reset_refusal s.lane)) s.lane _ refl)
only_new_bytes_spend s (asks_stop code) h may = nothing_new _ _ _ (stays (λ (l : SendLane). l.sent_end) (is_some (reset_refusal s.lane)) s.lane _ refl)
only_new_bytes_spend s (sends chunk) h may = (omega arith, new_bytes chunk.offset (chunk.offset + chunk.len) s.lane.sent_end (starts_by s chunk may h))
only_new_bytes_spend s (loses chunk) h may = nothing_new _ _ _ (stays (λ (x : Sending). x.lane.sent_end) (is_some s.lane.was_reset) s _ refl)
only_new_bytes_spend _ _ _ _ = nothing_new _ _ _ refl

-- ---- The bytes of a due chunk are kept.

kept_from : (s : Sending) (c : Chunk) → IsDueChunk s c → IsLawful s → (0 < c.len) ⊎ (c.len ≤ 0) → unacked_from s.lane ≤ c.offset
kept_from s c due h (inl some) =
    let least = unacked-least s.lane.acked s.lane.sent_end s.lane.written h.parts.acked_sent h.order.sent_written in
    let not_acked = h.parts.apart c.offset (due.due c.offset (omega arith) (omega (arith, some))) in
    grind (arith, nat_tests)
kept_from s c due h (inr none) = grind (arith, nat_tests)

pub due_has_bytes : (s : Sending) (c : Chunk) → IsDueChunk s c → IsLawful s → HasBytes s.lane c
due_has_bytes s c due h = record { no_reset = none_due s c due h; from = kept_from s c due h (cases_lt 0 c.len); end = due_within s c due h }

-- where an offset is due there was no reset
no_reset : (s : Sending) (q : ℕ) → IsLawful s → IsTrue (set.contains s.due.offsets q) → is_some s.lane.was_reset ≡ false
no_reset s q h has = by_reset (is_some s.lane.was_reset) refl
  where
    by_reset : (b : Bool) → is_some s.lane.was_reset ≡ b → b ≡ false
    by_reset false is = refl
    by_reset true is =
        let none = h.parts.none_due is in
        let has_none : IsTrue (set.contains set.empty q) = rw none at has in
        absurd (both_ways _ (set.contains-empty nat_cmp q) has_none)

pub run_has_bytes : (s : Sending) (run : ℕ × ℕ) (c : Chunk) → IsLawful s → IsRunFrom s.due.offsets 0 run → run.1 ≤ s.lane.written → c.offset ≡ run.0 → c.offset + c.len ≤ run.1 → HasBytes s.lane c
run_has_bytes s run c h is within place fits =
    let least = unacked-least s.lane.acked s.lane.sent_end s.lane.written h.parts.acked_sent h.order.sent_written in
    let not_acked = h.parts.apart run.0 is.starts.member in
    grind (arith, nat_tests, no_reset, cases_lt)
