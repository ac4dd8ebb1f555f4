-- Trusted.
-- One end of a connection: its streams, its credit and its packets (RFC 9000, sections 2 to 4 and 13).
use Rattle.std.specs.Prelude.{ℕ, ◌+◌, ◌-◌, ◌%◌, Bool, false, not, ◌&&◌, ◌==◌, nat_le, Option, None, Some, Result, Ok, Err, if◌then◌else◌}
use Rattle.std.specs.FinMap as fmap
use Rattle.std.specs.FinSet as set
use Rattle.qs_ranges.specs.Numbers.{NumberSet}
use Rattle.qs_wire.specs.declared.stream_id.Dir.{Dir}
use Rattle.qs_wire.specs.declared.stream_id.Dir.TheVariants.{Bidi, Uni}
use Rattle.qs_wire.specs.declared.stream_id.Role.{Role}
use Rattle.qs_wire.specs.declared.stream_id.Role.TheVariants.{Client, Server}
use Rattle.qs_recv.specs.Lane.{RecvLane, new_lane as new_recv_lane}
use Rattle.qs_send.specs.Lane.{SendLane, new_lane as new_send_lane}
use Rattle.qs_send.specs.Records.{PacketPieces}
use Rattle.qs_calls.specs.declared.settings.Settings.{Settings}
use Rattle.qs_calls.specs.declared.settings.Tuning.{Tuning}
use Rattle.qs_calls.specs.declared.settings.PeerLimits.{PeerLimits}
use Rattle.qs_calls.specs.declared.settings.SetupFault.{SetupFault}
use Rattle.qs_calls.specs.declared.closing.Closed.{Closed}
use Rattle.qs_calls.specs.Settings.{setup_fault, wide_setup_fault, default_tuning}
use Rattle.qs_machine.specs.Tables.{Tables, no_streams, type_of, lookup, updated, open_to}
pub use Rattle.qs_machine.specs.LostPackets.{LostPackets, no_lost, lost_with, lost_less}
pub use Rattle.qs_machine.specs.Acked.{AckedItems, no_items}

-- the pieces of packets, by packet number (RFC 9000, section 13.3)
abbrev pub Records : Type 0
Records = PacketPieces

-- the windows and grants in force, as the owner set them last, and the widest window of the connection so far (ours, beside RFC 9000,
-- sections 4.1 and 4.6)
pub record Present : Type 0 where
  pub conn_window : ℕ
  pub widest : ℕ
  pub grant_bidi : ℕ
  pub grant_uni : ℕ

-- what an end keeps of its streams, its credit and its packets (RFC 9000, sections 2 to 4 and 13)
pub record End : Type 0 where
  pub role : Role
  -- what the peer was told as the end was made
  pub settings : Settings
  -- what is in force since
  pub present : Present
  pub tuning : Tuning
  -- the limits that the peer began with
  pub peer : PeerLimits
  pub sends : Tables SendLane
  pub recvs : Tables RecvLane
  -- the connection limit and the counts of streams granted to the peer
  pub granted : ℕ
  pub granted_bidi : ℕ
  pub granted_uni : ℕ
  -- the peer's connection limit and its counts of streams, as far as they are known
  pub known_data : ℕ
  pub known_bidi : ℕ
  pub known_uni : ℕ
  -- how many of the peer's streams `accept` gave out
  pub accepted_bidi : ℕ
  pub accepted_uni : ℕ
  -- the counts at which `open` was blocked last
  pub wanted_bidi : Option ℕ
  pub wanted_uni : Option ℕ
  -- the processed packet numbers that are kept, and the number below which none is told apart
  pub done : NumberSet
  pub floor : ℕ
  pub ack_due : Bool
  -- the number of the next packet
  pub next : ℕ
  -- what the outstanding packets carried
  pub outstanding : Records
  -- what the packets carried that were declared lost
  pub lost : LostPackets
  -- which control items were acknowledged
  pub acked : AckedItems
  pub closed : Option Closed

-- the bit that names the initiator (RFC 9000, section 2.1)
abbrev pub role_bit : Role → ℕ
role_bit Client = 0
role_bit Server = 1

-- whether an end of that role opens the stream (RFC 9000, section 2.1)
abbrev pub is_own_by : Role → ℕ → Bool
is_own_by role n = type_of n % 2 == role_bit role

-- whether this end opens the stream (RFC 9000, section 2.1)
abbrev pub is_own : End → ℕ → Bool
is_own e n = is_own_by e.role n

-- the type of the streams that an end opens, and of those that its peer does (RFC 9000, section 2.1)
abbrev pub own_type : End → Dir → ℕ
own_type e Bidi = role_bit e.role
own_type e Uni = 2 + role_bit e.role

-- those that the peer opens (RFC 9000, section 2.1)
abbrev pub peer_type : End → Dir → ℕ
peer_type e Bidi = 1 - role_bit e.role
peer_type e Uni = 3 - role_bit e.role

-- whether only the initiator sends (RFC 9000, section 2.1)
abbrev pub is_uni : ℕ → Bool
is_uni n = nat_le 2 (type_of n)

-- the halves of a stream at this end, None where there is none (RFC 9000, section 3)
abbrev pub send_lane : End → ℕ → Option SendLane
send_lane e n = lookup e.sends n

-- the half that receives (RFC 9000, section 3.2)
abbrev pub recv_lane : End → ℕ → Option RecvLane
recv_lane e n = lookup e.recvs n

-- the sending half changed by f, where there is one (RFC 9000, section 3.1)
abbrev pub on_send : ℕ → (SendLane → SendLane) → End → End
on_send n f e = record e { sends = updated e.sends n f (send_lane e n) }

-- the receiving half changed by f, where there is one (RFC 9000, section 3.2)
abbrev pub on_recv : ℕ → (RecvLane → RecvLane) → End → End
on_recv n f e = record e { recvs = updated e.recvs n f (recv_lane e n) }

-- the limit with which a sending half begins: what the peer granted for streams of its type (RFC 9000, section 18.2)
abbrev pub first_send_limit : End → ℕ → ℕ
first_send_limit e n = if is_uni n then e.peer.uni else (if is_own e n then e.peer.bidi_remote else e.peer.bidi_local)

-- the window that an end of that role has set for a stream at first (RFC 9000, section 18.2)
abbrev pub first_window_by : Role → Settings → ℕ → ℕ
first_window_by role s n = if is_uni n then s.uni else (if is_own_by role n then s.bidi_local else s.bidi_remote)

-- the first window of a receiving half, which is its first limit too (RFC 9000, section 4.1)
abbrev pub first_window : End → ℕ → ℕ
first_window e n = first_window_by e.role e.settings n

-- The end with the stream, and all lower ones of its type, open. On a unidirectional stream only its initiator sends
-- (RFC 9000, sections 2.1 and 3.2).
abbrev pub opens : ℕ → End → End
opens n e =
    record e {
      sends = if is_uni n && not (is_own e n) then e.sends else open_to e.sends n (λ m. new_send_lane m (first_send_limit e n) e.settings.send_buffer);
      recvs = if is_uni n && is_own e n then e.recvs else open_to e.recvs n (λ m. new_recv_lane (first_window e n) e.tuning.credit_step);
    }

-- a frame that names a stream of the peer opens it (RFC 9000, section 3.2)
abbrev pub opened_by_peer : ℕ → End → End
opened_by_peer n e = if is_own e n then e else opens n e

-- an end that closed, or saw its peer close (RFC 9000, section 10.2)
abbrev pub closes : Closed → End → End
closes c e = record e { closed = Some c }

-- what is in force at first (RFC 9000, sections 4.1 and 4.6)
abbrev pub first_present : Settings → Present
first_present s = record { conn_window = s.conn_window; widest = s.conn_window; grant_bidi = s.grant_bidi; grant_uni = s.grant_uni }

-- a new end (RFC 9000, sections 4.1, 4.6 and 18.2)
abbrev pub new_end : Role → Settings → Tuning → PeerLimits → End
new_end role settings tuning peer =
    record {
      role = role;
      settings = settings;
      present = first_present settings;
      tuning = tuning;
      peer = peer;
      sends = no_streams;
      recvs = no_streams;
      granted = settings.conn_window;
      granted_bidi = settings.grant_bidi;
      granted_uni = settings.grant_uni;
      known_data = peer.max_data;
      known_bidi = peer.streams_bidi;
      known_uni = peer.streams_uni;
      accepted_bidi = 0;
      accepted_uni = 0;
      wanted_bidi = None;
      wanted_uni = None;
      done = set.empty;
      floor = 0;
      ack_due = false;
      next = 0;
      outstanding = fmap.empty;
      lost = no_lost;
      acked = no_items;
      closed = None;
    }

-- a refusal of the settings, or the end (RFC 9000, sections 4.6 and 7.4)
abbrev pub end_unless : Option SetupFault → End → Result End SetupFault
end_unless (Some fault) e = Err fault
end_unless None e = Ok e

-- what comes of making an end (RFC 9000, sections 4.6 and 7.4)
abbrev pub end_made : Role → Settings → PeerLimits → Result End SetupFault
end_made role settings peer = end_unless (setup_fault settings peer) (new_end role settings default_tuning peer)

-- the same of an end of wide ranges that is tuned (RFC 9000, sections 4.6 and 7.4)
abbrev pub wide_end_made : Role → Settings → Tuning → PeerLimits → Result End SetupFault
wide_end_made role settings tuning peer = end_unless (wide_setup_fault settings peer) (new_end role settings tuning peer)
