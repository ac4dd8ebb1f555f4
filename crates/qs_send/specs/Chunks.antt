-- Of public contracts.
-- Which chunks a lane may send (RFC 9000, sections 2.2 and 19.8).
use Rattle.std.specs.Prelude.{◌≡◌, ℕ, ◌+◌, ◌≤◌, ◌<◌, Bool, true, false, not, min, is_some, IsTrue, if◌then◌else◌, ◌&&◌, ◌||◌, ◌==◌, nat_lt}
use Rattle.qs_ranges.specs.Numbers.{ContainsRange, MissesRange}
use Rattle.qs_send.specs.declared.parts.Chunk.{Chunk}
use Rattle.qs_wire.specs.Varint.{short_len}
use Rattle.qs_send.specs.Lane.{SendLane, Sending, unacked_from}

-- how many bytes a STREAM frame's offset takes: it isn't written where it is 0 (RFC 9000, section 19.8)
abbrev pub offset_len : ℕ → ℕ
offset_len offset = if offset == 0 then 0 else short_len offset

-- how many bytes stand before those of the stream: the type, the stream's number, the offset, and the length (RFC 9000, section 19.8)
abbrev pub header_len : ℕ → ℕ → ℕ → ℕ
header_len id offset n = 1 + short_len id + offset_len offset + short_len n

-- how many bytes a STREAM frame with n bytes of the stream takes
abbrev pub frame_len : ℕ → ℕ → ℕ → ℕ
frame_len id offset n = header_len id offset n + n

-- The chunk holds due offsets in a row from the lowest one on, below the stream's limit (RFC 9000, section 4.1); the end exactly where it
-- is due and the written bytes end there; and not neither.
pub record IsDueChunk (s : Sending) (c : Chunk) : Type 0 where
  pub due : ContainsRange s.due.offsets c.offset (c.offset + c.len)
  pub lowest : MissesRange s.due.offsets 0 c.offset
  pub within_limit : c.offset + c.len ≤ s.lane.limit
  pub fin : c.fin ≡ (s.due.fin && (c.offset + c.len == s.lane.written))
  pub some : IsTrue (nat_lt 0 c.len || c.fin)

-- such a chunk whose bytes that were never sent are within the connection's credit (RFC 9000, section 4.1), and whose frame fits the room
pub record IsAllowed (s : Sending) (room fresh : ℕ) (c : Chunk) : Type 0 where
  pub chunk : IsDueChunk s c
  pub within_credit : c.offset + c.len ≤ s.lane.sent_end + fresh
  pub fits : frame_len s.lane.id c.offset c.len ≤ room

-- the longest one that is allowed
pub record IsNextChunk (s : Sending) (room fresh : ℕ) (c : Chunk) : Type 0 where
  pub allowed : IsAllowed s room fresh c
  pub longest : (d : Chunk) → IsAllowed s room fresh d → d.len ≤ c.len

-- no chunk is allowed
abbrev pub HasNoChunk : Sending → ℕ → ℕ → Type 0
HasNoChunk s room fresh = (c : Chunk) → IsAllowed s room fresh c → ⊥

-- bytes that were never sent lie below the lane's own limit; after a reset none do (RFC 9000, sections 3.1 and 4.1)
abbrev pub has_unsent : SendLane → Bool
has_unsent lane = not (is_some lane.was_reset) && nat_lt lane.sent_end (min lane.written lane.limit)

-- a chunk is held back by the room alone
pub record IsHeldByRoom (s : Sending) (room fresh : ℕ) : Type 0 where
  pub held : Chunk
  pub chunk : IsDueChunk s held
  pub within_credit : held.offset + held.len ≤ s.lane.sent_end + fresh
  pub too_long : room < frame_len s.lane.id held.offset held.len

-- the chunk was sent at some time
pub record WasSent (lane : SendLane) (c : Chunk) : Type 0 where
  pub offsets : c.offset + c.len ≤ lane.sent_end
  pub end : c.fin ≡ true → lane.fin_sent ≡ true

-- the chunk's bytes are still kept: neither acknowledged nor let go by a reset (RFC 9000, section 13.3)
pub record HasBytes (lane : SendLane) (c : Chunk) : Type 0 where
  pub no_reset : is_some lane.was_reset ≡ false
  pub from : unacked_from lane ≤ c.offset
  pub end : c.offset + c.len ≤ lane.written
