-- Of private contracts.
-- Bytes kept in a ring, and the map of bytes that they stand for. The byte of an offset stands at the offset modulo the ring's size.
--     padded, places_of, IsKept, around      the bytes that a ring keeps, and those of its places
--     byte_of, ring_bytes, stored_in_ring      each byte under its offset
--     RingBytes, IsThere, AreWritten, ..      which places were written
--     IsRing, IsApart, IsSized       what holds of a ring assembly's fields at all times
--     IsSizeFor, IsMoved, IsReach      a ring of another size
--     missing_count      how many offsets didn't come
--     IsNextRun, IsNextGap      where the next offsets that came begin, and where they end, and the same for those that didn't
--     AreKept       bytes that are kept, as far as their offsets came
--     IsWritten, IsFilled       what the places have after bytes were written
use Rattle.std.specs.Prelude.{◌≡◌, ℕ, ◌+◌, ◌-◌, ◌*◌, ◌%◌, ◌^◌, ◌⊎◌, max, ◌<◌, ◌≤◌, nat_lt, zero, suc, Bool, true, false, not, ◌&&◌, if◌then◌else◌, List, ◌++◌, length, take, drop, replicate, slice_index}
use Rattle.std.specs.Int.{IsPowerOfTwo}
use Rattle.std.specs.Ordering.{nat_cmp}
use Rattle.std.specs.FinMap as map
use Rattle.std.specs.FinSet as set
use Rattle.qs_ranges.specs.Numbers.{NumberSet, MAX_VARINT, ContainsRange, MissesRange, is_within, end_of}
use Rattle.std.specs.BTreeMap.{btree_map_len}
use Rattle.qs_recv.specs.Lane.{MAX_WINDOW}
use Rattle.qs_recv.specs.Pages.{AreWhole, PAGE, Pages, has_page, is_used, page_byte}

-- the bytes that a ring of that size keeps, and zeros for those that were never written
abbrev pub padded : ℕ → List ℕ → List ℕ
padded size bytes = bytes ++ replicate (size - length bytes) 0

-- the byte of each place, which stands so much further on among these, around the ring's end
abbrev pub places_of : ℕ → ℕ → List ℕ → List ℕ
places_of turn size bytes = drop turn (padded size bytes) ++ take turn (padded size bytes)

-- there is room for as many bytes as there are places, and where there are none no memory is taken
pub record IsKept (turn size count room : ℕ) : Type 0 where
  pub small : size ≤ MAX_WINDOW
  pub turned : turn ≤ size
  pub within : count ≤ size
  pub fits : size ≤ room
  pub none : size ≡ 0 → room ≡ 0

-- so many bytes from a place on, where the first follows the last
abbrev pub around : ℕ → ℕ → List ℕ → List ℕ
around place count bytes = take count (drop place bytes ++ bytes)

-- what a ring's places have, how far each of them stands further on among the bytes that it keeps, and how many of these there are
abbrev pub RingBytes : Type 0
RingBytes = List ℕ × (ℕ × ℕ)

-- a byte was written at the place of an offset
abbrev pub IsThere : RingBytes → ℕ → Type 0
IsThere ring q = (q + ring.1.0) % length ring.0 < ring.1.1

-- at those of the offsets from `from` on and below `to`
abbrev pub AreWritten : RingBytes → ℕ → ℕ → Type 0
AreWritten ring from to = (q : ℕ) → from ≤ q → q < to → IsThere ring q

-- where one was written, there still is one
abbrev pub StayWritten : RingBytes → RingBytes → Type 0
StayWritten old new = (q : ℕ) → IsThere old q → IsThere new q

-- for the offsets from `from` on and below `to`
abbrev pub StayWrittenTo : ℕ → ℕ → RingBytes → RingBytes → Type 0
StayWrittenTo from to old new = (q : ℕ) → from ≤ q → q < to → IsThere old q → IsThere new q

-- at those of the offsets from `from` on and below `to` that didn't come before
abbrev pub AreFilled : NumberSet → ℕ → ℕ → RingBytes → Type 0
AreFilled received from to ring = (q : ℕ) → from ≤ q → q < to → set.contains received q ≡ false → IsThere ring q

-- at those from what was read to `near` that came, until bytes are thrown away
abbrev pub CameWritten : RingBytes → NumberSet → ℕ → ℕ → Bool → Type 0
CameWritten ring received read_count near discarding =
    discarding ≡ false → (q : ℕ) → read_count ≤ q → q < near → set.contains received q ≡ true → IsThere ring q

-- the byte of an offset: at its place in the ring below `near`, and in its page from there on
abbrev pub byte_of : List ℕ → ℕ → Pages → ℕ → ℕ
byte_of ring near pages q = if nat_lt q near then slice_index ring (q % length ring) else page_byte pages q

-- the bytes of those of the n offsets from `from` on that came
unfoldable pub ring_bytes : NumberSet → (ℕ → ℕ) → ℕ → ℕ → map.FinMap nat_cmp ℕ
ring_bytes received byte from zero = map.empty
ring_bytes received byte from (suc n) =
    if set.contains received (from + n)
    then map.insert (ring_bytes received byte from n) (from + n) (byte (from + n))
    else ring_bytes received byte from n

-- the bytes within a window past what was read, and none where bytes are thrown away
abbrev pub stored_in_ring : NumberSet → (ℕ → ℕ) → ℕ → ℕ → Bool → map.FinMap nat_cmp ℕ
stored_in_ring received byte window read_count discarding =
    if discarding then map.empty else ring_bytes received byte read_count window

-- what was read came; until bytes are thrown away, what came lies within the window past it; and the stored bytes are counted
pub record IsRing (byte : ℕ → ℕ) (received : NumberSet) (window read_count stored : ℕ) (discarding : Bool) : Type 0 where
  pub small_window : window ≤ MAX_WINDOW
  pub small_count : read_count ≤ 2 ^ 62
  pub read_came : (q : ℕ) → q < read_count → set.contains received q ≡ true
  pub came_within : discarding ≡ false → (q : ℕ) → set.contains received q ≡ true → q < read_count + window
  pub counted : stored ≡ map.len (stored_in_ring received byte window read_count discarding)

-- the ring reaches from what was read to `near`; what came from there on lies a page past it or further, in pages that are in use; and these
-- begin past it, and before the end of what came
pub record IsApart (ring : List ℕ) (pages : Pages) (received : NumberSet) (read_count near end : ℕ) : Type 0 where
  pub ends : end ≡ end_of received
  pub small : end ≤ MAX_VARINT
  pub starts : read_count ≤ near
  pub before : near ≤ end_of received
  pub reaches : near ≤ read_count + length ring
  pub gap : (q : ℕ) → near ≤ q → set.contains received q ≡ true → near + PAGE ≤ q
  pub had : (q : ℕ) → near ≤ q → set.contains received q ≡ true → has_page pages q ≡ true
  pub used : (n : ℕ) → is_used pages n ≡ true → (near < n * PAGE) × (n * PAGE < end)

-- a ring is no larger than the window, and where it has more than 4,096 bytes, no larger than three times the span from what was read to
-- `near`; where bytes are thrown away, there are none
pub record IsSized (ring : List ℕ) (pages : Pages) (received : NumberSet) (read_count near end window : ℕ) (discarding : Bool) : Type 0 where
  pub within : length ring ≤ window
  pub bound : length ring ≤ max 4096 (3 * (near - read_count))
  pub whole : AreWhole pages
  pub none : discarding ≡ true → (length ring ≡ 0) × (btree_map_len pages ≡ 0)
  pub apart : discarding ≡ false → IsApart ring pages received read_count near end

-- the size of a ring that reaches so far: a power of two, or the window
pub record IsSizeFor (span window size : ℕ) : Type 0 where
  pub reaches : span ≤ size
  pub within : size ≤ window
  pub bound : size ≤ max 64 (2 * span)
  pub power : IsPowerOfTwo size ⊎ (size ≡ window)

-- a ring of another size has the bytes of so many offsets from `from` on
abbrev pub IsMoved : ℕ → ℕ → List ℕ → List ℕ → Type 0
IsMoved from count old new = (q : ℕ) → from ≤ q → q < from + count → slice_index new (q % length new) ≡ slice_index old (q % length old)

-- a ring reaches so far past `from`, with the bytes of so many offsets, and is no larger than it was or is made to be
pub record IsReach (from count span size : ℕ) (old new : List ℕ) : Type 0 where
  pub reaches : span ≤ length new
  pub more : length old ≤ length new
  pub bound : length new ≤ max (length old) size
  pub moved : IsMoved from count old new

-- how many of the n offsets from `from` on didn't come
unfoldable pub missing_count : NumberSet → ℕ → ℕ → ℕ
missing_count received from zero = 0
missing_count received from (suc n) =
    if set.contains received (from + n) then missing_count received from n else missing_count received from n + 1

-- none of the offsets from `at` on and below `stop` came, and all from there on and below `next`, where a gap is or the end
pub record IsNextRun (received : NumberSet) (at end stop next : ℕ) : Type 0 where
  pub begins : at ≤ stop
  pub some : at < next
  pub ordered : stop ≤ next
  pub ends : next ≤ end
  pub missing : MissesRange received at stop
  pub came : ContainsRange received stop next
  pub next_missing : next < end → set.contains received next ≡ false

-- all offsets from `at` on and below `from` came, and none of those from there on and below `to`; where `from` isn't at the end or past it,
-- there is one
pub record IsNextGap (received : NumberSet) (at end from to : ℕ) : Type 0 where
  pub begins : at ≤ from
  pub some : from < end → from < to
  pub ends : to ≤ max at end
  pub stays : from ≤ max at end
  pub came : ContainsRange received at from
  pub missing : MissesRange received from to

-- the places of the offsets from `at` on have these bytes, and those of others less than the ring's size away what they had
abbrev pub IsWritten : ℕ → List ℕ → List ℕ → List ℕ → Type 0
IsWritten at bytes old new =
    (q : ℕ) → at + length bytes ≤ q + length old → q < at + length old
    → slice_index new (q % length old) ≡ (if is_within at (at + length bytes) q then slice_index bytes (q - at) else slice_index old (q % length old))

-- the same for those of the offsets from `first` on and below `end` that didn't come, with the bytes from `offset` on
abbrev pub IsFilled : NumberSet → ℕ → ℕ → ℕ → List ℕ → List ℕ → List ℕ → Type 0
IsFilled received first end offset bytes old new =
    (q : ℕ) → end ≤ q + length old → q < first + length old
    → slice_index new (q % length old)
    ≡ (if is_within first end q && not (set.contains received q) then slice_index bytes (q - offset) else slice_index old (q % length old))

-- the bytes from `at` on stand at the places of their offsets
abbrev pub AreAt : List ℕ → ℕ → List ℕ → Type 0
AreAt ring at bytes = (k : ℕ) → k < length bytes → slice_index bytes k ≡ slice_index ring ((at + k) % length ring)

-- the bytes from `offset` on are those that are kept, for the offsets from `start` on that came (RFC 9000, section 2.2)
abbrev pub AreKept : NumberSet → (ℕ → ℕ) → ℕ → ℕ → List ℕ → Type 0
AreKept received byte start offset bytes =
    (q : ℕ) → start ≤ q → q < offset + length bytes → set.contains received q ≡ true → slice_index bytes (q - offset) ≡ byte q
