-- Of laws.
-- The calls that change a half, as one list, for the laws.
use Rattle.std.specs.Prelude.{◌≡◌, ℕ, ◌≤◌, List, length, None}
use Rattle.qs_ranges.specs.Numbers.{MAX_VARINT}
use Rattle.qs_send.specs.declared.parts.Chunk.{Chunk}
use Rattle.qs_send.specs.declared.parts.SendState.TheVariants.{ResetSent}
use Rattle.qs_send.specs.Lane.{Sending, accepted, refusal, state, after_write, after_finish, after_reset, after_stopped, after_asked, after_reset_acked, after_blocked, after_allow, after_buffer, after_sent, after_acked, after_lost}
use Rattle.qs_send.specs.Chunks.{IsDueChunk, WasSent}

-- a call that isn't refused, with what it was given; of a write the bytes that were accepted
pub data Call : Type 0 where
  writes : (bytes : List ℕ) → Call
  finishes : Call
  resets : (code : ℕ) → Call
  stops : (code : ℕ) → Call
  asks_stop : (code : ℕ) → Call
  acks_reset : Call
  blocks : Call
  allows : (limit : ℕ) → Call
  buffers : (size : ℕ) → Call
  sends : (chunk : Chunk) → Call
  acks : (chunk : Chunk) → Call
  loses : (chunk : Chunk) → Call

-- when the call may be made
abbrev pub MayCall : Sending → Call → Type 0
MayCall s (writes bytes) = (refusal s.lane ≡ None) × (length bytes ≤ accepted s.lane (length bytes))
MayCall s finishes = Unit {0}
MayCall s (resets code) = Unit {0}
MayCall s (stops code) = Unit {0}
MayCall s (asks_stop code) = Unit {0}
MayCall s acks_reset = state s.lane ≡ ResetSent
MayCall s blocks = Unit {0}
MayCall s (allows limit) = limit ≤ MAX_VARINT
MayCall s (buffers size) = Unit {0}
MayCall s (sends chunk) = IsDueChunk s chunk
MayCall s (acks chunk) = WasSent s.lane chunk
MayCall s (loses chunk) = WasSent s.lane chunk

-- what the call leaves
abbrev pub after_call : Sending → Call → Sending
after_call s (writes bytes) = after_write s bytes
after_call s finishes = after_finish s
after_call s (resets code) = after_reset s code
after_call s (stops code) = after_stopped s code
after_call s (asks_stop code) = after_asked s code
after_call s acks_reset = after_reset_acked s
after_call s blocks = after_blocked s
after_call s (allows limit) = after_allow s limit
after_call s (buffers size) = after_buffer s size
after_call s (sends chunk) = after_sent s chunk
after_call s (acks chunk) = after_acked s chunk
after_call s (loses chunk) = after_lost s chunk
