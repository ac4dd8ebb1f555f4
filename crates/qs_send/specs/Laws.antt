-- Of laws.
-- Laws on halves and chunks.
use Rattle.std.specs.Prelude.{◌≡◌, ℕ, ◌+◌, ◌-◌, ◌≤◌, ◌<◌, ◌⊎◌, ◌↔◌, Bool, true, IsTrue, if◌then◌else◌, nat_lt, max, List, [], length, is_some, Some, None}
use Rattle.std.specs.FinSet as set
use Rattle.qs_wire.specs.Layout.{stream}
use Rattle.qs_wire.specs.Grammar.{canonical}
use Rattle.qs_ranges.specs.Numbers.{MAX_VARINT, NumberSet, ContainsRange, IsLeastMissingFrom}
use Rattle.qs_send.specs.declared.parts.Chunk.{Chunk}
use Rattle.qs_send.specs.Lane.{Sending, SendLane, new_sending, unacked_from, is_whole, declared_size, chunk_offsets, after_sent}
use Rattle.qs_send.specs.Chunks.{IsDueChunk, IsNextChunk, HasNoChunk, IsHeldByRoom, HasBytes, frame_len}
use Rattle.qs_send.specs.Sound.{IsLawful}
use Rattle.qs_send.specs.Calls.{Call, sends, MayCall, after_call}
use Rattle.qs_send.specs.Parts.{in_flight, parts_with, MovesParts}

-- Frames

-- the length that the room counts is that of the frame's canonical text (RFC 9000, section 19.8)
abbrev pub FrameLenIsCanonical : Type 0
FrameLenIsCanonical = (id offset : ℕ) (fin : Bool) (bytes : List ℕ) → frame_len id offset (length bytes) ≡ length (canonical (stream id offset fin bytes))

-- Halves

-- what holds of every half holds of a new one, and still after each call
abbrev pub NewIsLawful : Type 0
NewIsLawful = (id limit buffer : ℕ) → id ≤ MAX_VARINT → limit ≤ MAX_VARINT → IsLawful (new_sending id limit buffer)

abbrev pub CallsKeepLawful : Type 0
CallsKeepLawful = (s : Sending) (call : Call) → IsLawful s → MayCall s call → IsLawful (after_call s call)

-- the bytes that are kept begin at the lowest offset that isn't acknowledged, and reach to the last one written; after a reset none is
abbrev pub KeptFromUnacked : Type 0
KeptFromUnacked =
    (s : Sending) → IsLawful s
    → IsLeastMissingFrom s.lane.acked 0 (unacked_from s.lane) × (s.lane.was_reset ≡ None → unacked_from s.lane + length s.lane.kept ≡ s.lane.written)
    × (is_some s.lane.was_reset ≡ true → s.lane.kept ≡ [])

-- Data Recvd is told by the offsets: each written one and the end were acknowledged (RFC 9000, section 3.1)
abbrev pub WholeIsAllAcked : Type 0
WholeIsAllAcked = (s : Sending) → IsLawful s → IsTrue (is_whole s.lane) ↔ (ContainsRange s.lane.acked 0 s.lane.written × IsTrue s.lane.fin_acked)

-- The three parts

-- each written offset is in one of them, and no other is
abbrev pub EachOffsetIsInOnePart : Type 0
EachOffsetIsInOnePart = (s : Sending) → IsLawful s → (q : ℕ) → parts_with s q ≡ (if nat_lt q s.lane.written then 1 else 0)

-- what is in flight was sent, where no reset took it out of what is due
abbrev pub InFlightWasSent : Type 0
InFlightWasSent = (s : Sending) → IsLawful s → s.lane.was_reset ≡ None → (q : ℕ) → IsTrue (set.contains (in_flight s) q) → q < s.lane.sent_end

-- each call moves offsets between the parts as its name says, and only a reset moves them otherwise
abbrev pub CallsMoveParts : Type 0
CallsMoveParts = (s : Sending) (call : Call) → IsLawful s → s.lane.was_reset ≡ None → MayCall s call → MovesParts s call (after_call s call)

-- Final sizes and credit

-- a final size that was declared is the sent end
abbrev pub DeclaredSizeIsSentEnd : Type 0
DeclaredSizeIsSentEnd = (s : Sending) (size : ℕ) → IsLawful s → declared_size s.lane ≡ Some size → size ≡ s.lane.sent_end

-- and no call changes it (RFC 9000, section 4.5)
abbrev pub DeclaredSizeStays : Type 0
DeclaredSizeStays = (s : Sending) (call : Call) (size : ℕ) → IsLawful s → MayCall s call → declared_size s.lane ≡ Some size → declared_size (after_call s call).lane ≡ Some size

-- the offsets that a call sends
abbrev pub sent_by : Call → NumberSet
sent_by (sends chunk) = chunk_offsets chunk
sent_by _ = set.empty

-- the sent end never falls, and what it passes is sent for the first time: a byte sent again spends nothing (RFC 9000, section 4.1)
abbrev pub OnlyNewBytesSpend : Type 0
OnlyNewBytesSpend =
    (s : Sending) (call : Call) → IsLawful s → MayCall s call
    → (s.lane.sent_end ≤ (after_call s call).lane.sent_end) × ContainsRange (sent_by call) s.lane.sent_end (after_call s call).lane.sent_end

-- Chunks

abbrev pub NextChunkIsUnique : Type 0
NextChunkIsUnique = (s : Sending) (room fresh : ℕ) (c d : Chunk) → IsNextChunk s room fresh c → IsNextChunk s room fresh d → c ≡ d

-- a due chunk's bytes are in the buffer
abbrev pub DueChunkHasBytes : Type 0
DueChunkHasBytes = (s : Sending) (c : Chunk) → IsDueChunk s c → IsLawful s → HasBytes s.lane c

-- the credit that is left once the chunk was sent
abbrev pub fresh_after : SendLane → ℕ → Chunk → ℕ
fresh_after lane fresh c = fresh - (max lane.sent_end (c.offset + c.len) - lane.sent_end)

-- after a chunk that stops inside its run the same packet takes no other, so it has one frame for each run
abbrev pub CutChunkIsLast : Type 0
CutChunkIsLast =
    (s : Sending) (room fresh : ℕ) (c : Chunk) → IsLawful s → IsNextChunk s room fresh c → IsTrue (set.contains s.due.offsets (c.offset + c.len))
    → HasNoChunk (after_sent s c) (room - frame_len s.lane.id c.offset c.len) (fresh_after s.lane fresh c)

-- an offset that is due and may go out now
abbrev pub IsSendable : Sending → ℕ → ℕ → Type 0
IsSendable s fresh q =
    IsTrue (set.contains s.due.offsets q) × (q < s.lane.limit) × ((q < s.lane.sent_end) ⊎ ((q ≡ s.lane.sent_end) × (0 < fresh)))

-- 19 bytes are enough for a chunk, where an offset may go out
abbrev pub SendableHasChunk : Type 0
SendableHasChunk = (s : Sending) (room fresh q : ℕ) → IsLawful s → 19 ≤ room → IsSendable s fresh q → HasNoChunk s room fresh → ⊥

-- and where the end is due and every byte was sent
abbrev pub SendableEndHasChunk : Type 0
SendableEndHasChunk = (s : Sending) (room fresh : ℕ) → IsLawful s → 19 ≤ room → s.due.fin ≡ true → s.lane.sent_end ≡ s.lane.written → HasNoChunk s room fresh → ⊥

-- where no chunk is allowed, the room is the cause only if it has less than 19 bytes, and else no room would be enough
abbrev pub HeldByRoomOrLimits : Type 0
HeldByRoomOrLimits =
    (s : Sending) (room fresh : ℕ) → IsLawful s → HasNoChunk s room fresh
    → (IsHeldByRoom s room fresh → room < 19) × ((IsHeldByRoom s room fresh → ⊥) → (ample : ℕ) → HasNoChunk s ample fresh)
