-- Of private contracts.
-- Where in a payload a frame and its bytes stand: behind so many numbers.
use Rattle.std.specs.Prelude.{◌≡◌, ℕ, zero, suc, ◌+◌, ◌-◌, ◌<◌, ◌≤◌, List, length, drop, Option, Some, None, is_some, nat_eq, nat_lt, nat_le, if◌then◌else◌}
use Rattle.qs_wire.specs.declared.fault.WireFault.{WireFault}
use Rattle.qs_wire.specs.Varint.{varint_at}
use Rattle.qs_wire.specs.Layout.{FrameValue, PlacedValue, ack, crypto, new_token, stream, new_connection_id, path_challenge, path_response, connection_close, application_close}
use Rattle.qs_wire.specs.Reading.{with_first}
use Rattle.qs_c.specs.declared.frame.GvFrame.{GvFrame}
use Rattle.qs_c.specs.Frames.{IsTold, reading_at}

-- At a place of a payload stands a frame, as it is told, and behind it, at another place, what is left.
pub record IsNext (payload : List ℕ) (at : ℕ) (f : GvFrame) (next : ℕ) : Type 0 where
  pub first : PlacedValue
  pub reading : reading_at payload at ≡ with_first first (reading_at payload next)
  pub told : IsTold payload first f
  pub further : at < next
  pub within : next ≤ length payload

-- a fault of what stands at a place
abbrev pub fault_from : ℕ → WireFault → WireFault
fault_from place w = record { kind = w.kind; place = place; code = w.code; frame_type = w.frame_type }

-- how many bytes so many numbers take at the front
abbrev pub skip_then : List ℕ → (List ℕ → ℕ) → Option (ℕ × ℕ) → ℕ
skip_then bytes more None = 0
skip_then bytes more (Some x) = x.1 + more (drop x.1 bytes)

unfoldable pub skip_of : ℕ → List ℕ → ℕ
skip_of zero bytes = 0
skip_of (suc n) bytes = skip_then bytes (skip_of n) (varint_at bytes)

-- how many numbers a frame of a type has before its bytes, its type's among them
abbrev pub lead_of : ℕ → ℕ
lead_of t =
    if nat_le t 0x01 then 1 else
    if nat_le t 0x04 then 4 else
    if nat_le t 0x06 then 3 else
    if nat_eq t 0x07 then 2 else
    if nat_le t 0x09 then 2 else
    if nat_le t 0x0d then 3 else
    if nat_le t 0x0f then 4 else
    if nat_eq t 0x10 then 2 else
    if nat_eq t 0x11 then 3 else
    if nat_le t 0x14 then 2 else
    if nat_eq t 0x15 then 3 else
    if nat_le t 0x17 then 2 else
    if nat_eq t 0x18 then 4 else
    if nat_eq t 0x19 then 2 else
    if nat_le t 0x1b then 1 else
    if nat_eq t 0x1c then 4 else
    if nat_eq t 0x1d then 3 else 1

-- Where the bytes stand, how many of them are numbers of ranges, and where the frame ends: behind `lead` numbers there are `mid`
-- numbers, `block` bytes and `trail` numbers.
abbrev pub laid_of : ℕ → ℕ → ℕ → ℕ → List ℕ → Option (ℕ × ℕ × ℕ)
laid_of lead mid block trail bytes =
    let at = skip_of lead bytes in
    let ranges = skip_of mid (drop at bytes) in
    let start = at + ranges in
    if nat_lt (length bytes - start) block then None
    else Some (at, ranges, (start + block) + skip_of trail (drop (start + block) bytes))

-- How many numbers of ranges a frame has, how many bytes, how many of a token, and how many numbers behind them.
pub record Sizes : Type 0 where
  pub mid : ℕ
  pub bytes : ℕ
  pub token : ℕ
  pub trail : ℕ

abbrev pub sized : ℕ → Sizes
sized n = record { mid = 0; bytes = n; token = 0; trail = 0 }

abbrev pub sizes_of : FrameValue → Sizes
sizes_of (ack largest delay ranges ecn) = record { mid = length ranges; bytes = 0; token = 0; trail = if is_some ecn then 3 else 0 }
sizes_of (crypto offset b) = sized (length b)
sizes_of (new_token b) = sized (length b)
sizes_of (stream s offset fin b) = sized (length b)
sizes_of (new_connection_id sequence retire id t) = record { mid = 0; bytes = length id; token = length t; trail = 0 }
sizes_of (path_challenge b) = sized (length b)
sizes_of (path_response b) = sized (length b)
sizes_of (connection_close code type reason) = sized (length reason)
sizes_of (application_close code reason) = sized (length reason)
sizes_of _ = sized 0

abbrev pub as_sizes : ℕ × ℕ × ℕ × ℕ → Sizes
as_sizes x = record { mid = x.0; bytes = x.1; token = x.2; trail = x.3 }
