-- Of laws.
-- The invariant of a run. It is local: it speaks of one end, of the calls of its owner, of what it processed, and of the packets that
-- it and its peer made. What the two ends have in common follows from the two halves (Agreement).
use Rattle.std.specs.Prelude.{◌≡◌, ℕ, ◌+◌, ◌/◌, ◌<◌, ◌≤◌, Bool, true, false, List, [], ◌⊎◌, length, drop, Option, Some, None, is_some, slice_get, if◌then◌else◌}
use Rattle.std.specs.List.{AllByRecursion}
use Rattle.std.specs.FinMap as fmap
use Rattle.std.specs.FinSet as set
use Rattle.qs_ranges.specs.Numbers.{NumberSet}
use Rattle.qs_wire.specs.declared.stream_id.Role.{Role}
use Rattle.qs_wire.specs.declared.stream_id.Dir.{Dir}
use Rattle.qs_wire.specs.declared.stream_id.Dir.TheVariants.{Bidi, Uni}
use Rattle.qs_recv.specs.Lane.{RecvLane}
use Rattle.qs_send.specs.Lane.{SendLane, unacked_from}
use Rattle.qs_send.specs.declared.parts.Reset.{Reset}
use Rattle.qs_send.specs.declared.piece.Item.TheVariants.{MaxData, MaxStreamData, MaxStreams, ResetStream, StopSending, StreamDataBlocked}
use Rattle.qs_send.specs.declared.piece.Piece.{Piece}
use Rattle.qs_machine.specs.Tables.{Tables, lookup}
use Rattle.qs_machine.specs.Ends.{End, Records, is_own_by, is_uni, first_send_limit, first_window}
use Rattle.qs_machine.specs.Credit.{all_sent, first_grant, granted_streams}
use Rattle.qs_machine.specs.Standing.{IsSound}
use Rattle.qs_machine.specs.Repeats.{SentWasWritten}
use Rattle.qs_machine.specs.Seen.{Seen, Ack, Stream, Control, Close, Plain}
use Rattle.qs_machine.specs.FrameStep.{is_named}
use Rattle.qs_machine.specs.Alone.{is_ours}
use Rattle.qs_send.specs.Records.{Among}
use Rattle.qs_wire.specs.Grammar.{Fits, frames_of}
use Rattle.qs_wire.specs.Reading.{reading_of}
use Rattle.qs_calls.specs.declared.settings.Settings.{Settings}
use Rattle.qs_calls.specs.declared.settings.PeerLimits.{PeerLimits}
use Rattle.qs_wire.specs.declared.stream_id.Role.TheVariants.{Client, Server}
use Rattle.qs_calls.specs.declared.event.Side.{Side}
use Rattle.qs_calls.specs.declared.event.Side.TheVariants.{A, B}
use Rattle.qs_runs.specs.Logs.{History, other, made, processed, taken, was_acked, HasMade, HasLanded}
use Rattle.qs_runs.specs.Worlds.{World, end_of, AreGranted}
use Rattle.qs_runs.specs.Agree.{StaysOpen}
use Rattle.qs_runs.specs.Pasts.{Packets, Past, past, Holds, Tells, TellsOffset, TellsByte, TellsEnd, TellsReset, WasConfirmed, PieceOf, IsNamed}

-- Sending

-- A STREAM frame that was sent is true of a half: of the bytes written and their count, the sent end, and whether the end was sent.
pub record ChunkTrue (all : List ℕ) (count sent_end : ℕ) (fin_sent : Bool) (offset : ℕ) (bytes : List ℕ) (fin : Bool) : Type 0 where
  pub same : (i b : ℕ) → slice_get bytes i ≡ Some b → slice_get all (offset + i) ≡ Some b
  pub below : offset + length bytes ≤ sent_end
  pub end : fin ≡ true → (fin_sent ≡ true) × (offset + length bytes ≡ count)

-- A sending half, against what was written to it and what was sent of it, and whether its owner reset it.
pub record SendTrue (mine theirs : Packets) (tokens : ℕ → Bool) (broken : Bool) (all : List ℕ) (n limit : ℕ) (l : SendLane) : Type 0 where
  pub count : length all ≡ l.written
  pub kept : l.was_reset ≡ None → l.kept ≡ drop (unacked_from l) all
  pub sent_written : l.sent_end ≤ l.written
  pub sent_limit : l.sent_end ≤ l.limit
  pub end : l.fin_sent ≡ true → (l.finished ≡ true) × (l.sent_end ≡ l.written)
  pub reset_size : (r : Reset) → l.was_reset ≡ Some r → r.size ≡ l.sent_end
  pub told : (offset : ℕ) (bytes : List ℕ) (fin : Bool) → Tells mine (Stream n offset bytes fin) → ChunkTrue all l.written l.sent_end l.fin_sent offset bytes fin
  pub told_reset : (code size : ℕ) → TellsReset mine n code size → l.was_reset ≡ Some (record { code = code; size = size })
  -- an acknowledged offset or end stood in a packet that was confirmed
  pub acked : (q : ℕ) → set.contains l.acked q ≡ true →
      (k offset : ℕ) × (bytes : List ℕ) × (fin : Bool) × Holds mine k (Stream n offset bytes fin) × (offset ≤ q) × (q < offset + length bytes) × WasConfirmed theirs tokens k
  pub end_acked : l.fin_acked ≡ true → (k offset : ℕ) × (bytes : List ℕ) × Holds mine k (Stream n offset bytes true) × WasConfirmed theirs tokens k
  pub limit_told : (l.limit ≤ limit) ⊎ Tells theirs (Control (MaxStreamData n l.limit))
  pub reset_asked : is_some l.was_reset ≡ true → (broken ≡ true) ⊎ ((code : ℕ) × Tells theirs (Control (StopSending n code)))

abbrev pub SendOk : Past → ℕ → ℕ → SendLane → Type 0
SendOk p n limit l = SendTrue p.mine p.theirs p.tokens (p.broken n) (p.bytes n) n limit l

-- No frame speaks of a stream on which this end doesn't send.
pub record NeverSent (mine : Packets) (all : List ℕ) (n : ℕ) : Type 0 where
  pub no_bytes : all ≡ []
  pub no_stream : (offset : ℕ) (bytes : List ℕ) (fin : Bool) → Tells mine (Stream n offset bytes fin) → ⊥
  pub no_reset : (code size : ℕ) → TellsReset mine n code size → ⊥
  pub no_blocked : (limit : ℕ) → Tells mine (Control (StreamDataBlocked n limit)) → ⊥

abbrev pub NotSent : Past → ℕ → Type 0
NotSent p n = NeverSent p.mine (p.bytes n) n

abbrev pub SendSlot : Past → ℕ → ℕ → Option SendLane → Type 0
SendSlot p n limit (Some l) = SendOk p n limit l
SendSlot p n limit None = NotSent p n

-- Receiving

-- a packet told this offset or a higher one
abbrev pub TellsUpTo : Packets → ℕ → ℕ → Type 0
TellsUpTo packets n q = (m : ℕ) × (q ≤ m) × TellsOffset packets n m

-- A receiving half: all that it knows stood in packets that the peer made.
pub record RecvTrue (mine theirs : Packets) (given : List ℕ) (was_stopped was_ended : Bool) (n window : ℕ) (l : RecvLane) : Type 0 where
  pub received : (q : ℕ) → set.contains l.arrived.received q ≡ true → TellsUpTo theirs n q
  pub stored : (q b : ℕ) → fmap.get l.arrived.stored q ≡ Some b → TellsByte theirs n q b
  pub count : length given ≡ l.arrived.read_count
  pub gave : (q b : ℕ) → slice_get given q ≡ Some b → TellsByte theirs n q b
  pub final : (size : ℕ) → l.final_size ≡ Some size → TellsEnd theirs n size ⊎ ((code : ℕ) × (l.reset_code ≡ Some code) × TellsReset theirs n code size)
  pub reset : (code : ℕ) → l.reset_code ≡ Some code → (size : ℕ) × (l.final_size ≡ Some size) × TellsReset theirs n code size
  pub not_stopped : was_stopped ≡ false → l.stop_code ≡ None
  pub ended : was_ended ≡ true → (size : ℕ) × (l.arrived.read_count ≡ size) × (l.final_size ≡ Some size) × TellsEnd theirs n size
  pub window_granted : window ≤ l.limit
  pub limit_told : (limit : ℕ) → Tells mine (Control (MaxStreamData n limit)) → limit ≤ l.limit
  pub stop_asked : (code : ℕ) → Tells mine (Control (StopSending n code)) → was_stopped ≡ true

abbrev pub RecvOk : Past → ℕ → ℕ → RecvLane → Type 0
RecvOk p n window l = RecvTrue p.mine p.theirs (p.gave n) (p.stopped n) (p.ended n) n window l

pub record NeverReceived (mine : Packets) (given : List ℕ) (was_stopped was_ended : Bool) (n : ℕ) : Type 0 where
  pub no_bytes : given ≡ []
  pub no_end : was_ended ≡ false
  pub not_stopped : was_stopped ≡ false
  pub no_limit : (limit : ℕ) → Tells mine (Control (MaxStreamData n limit)) → ⊥
  pub no_stop : (code : ℕ) → Tells mine (Control (StopSending n code)) → ⊥

abbrev pub NotReceived : Past → ℕ → Type 0
NotReceived p n = NeverReceived p.mine (p.gave n) (p.stopped n) (p.ended n) n

abbrev pub RecvSlot : Past → ℕ → ℕ → Option RecvLane → Type 0
RecvSlot p n window (Some l) = RecvOk p n window l
RecvSlot p n window None = NotReceived p n

-- Packets

-- A STREAM frame took effect, for good.
pub record StreamTaken (l : RecvLane) (offset : ℕ) (bytes : List ℕ) (fin : Bool) : Type 0 where
  pub offsets : l.reset_code ≡ None → (q : ℕ) → offset ≤ q → q < offset + length bytes → set.contains l.arrived.received q ≡ true
  pub end : fin ≡ true → l.final_size ≡ Some (offset + length bytes)

abbrev pub FrameTaken : Tables RecvLane → Seen → Type 0
FrameTaken t (Stream n offset bytes fin) = (l : RecvLane) × (lookup t n ≡ Some l) × StreamTaken l offset bytes fin
FrameTaken t (Control (ResetStream n code size)) = (l : RecvLane) × (lookup t n ≡ Some l) × (l.final_size ≡ Some size)
FrameTaken t f = Unit {0}

-- An end makes no other frames, and the layer beneath sends a PING.
abbrev pub IsMade : Seen → Type 0
IsMade (Close code) = ⊥
IsMade (Plain asks) = asks ≡ true
IsMade f = Unit {0}

-- An ACK names processed numbers alone, its largest among them.
pub record AckTrue (processed : ℕ → Bool) (largest : ℕ) (ranges : List (ℕ × ℕ)) : Type 0 where
  pub names_largest : is_named ranges largest ≡ true
  pub names_processed : (k : ℕ) → is_named ranges k ≡ true → processed k ≡ true

-- each piece of these records stood in the packet of the record's number
abbrev pub StoodIn : Packets → Records → Type 0
StoodIn mine m = (k : ℕ) (ps : List Piece) (piece : Piece) → fmap.get m k ≡ Some ps → Among piece ps → PieceOf mine k piece

-- The numbers, the records of what is outstanding and of what was lost, what was processed and what was acknowledged.
pub record PacketsTrue (mine : Packets) (processed : ℕ → Bool) (next : ℕ) (outstanding lost : Records) (done : NumberSet) (floor : ℕ) : Type 0 where
  pub count : next ≡ length mine
  pub records : StoodIn mine outstanding
  pub lost_records : StoodIn mine lost
  pub acks_told : (largest : ℕ) (ranges : List (ℕ × ℕ)) → Tells mine (Ack largest ranges) → AckTrue processed largest ranges
  pub kinds : (f : Seen) → Tells mine f → IsMade f
  pub is_done : (k : ℕ) → set.contains done k ≡ true → processed k ≡ true
  pub above : (k : ℕ) → set.contains done k ≡ true → floor ≤ k
  pub kept : (k : ℕ) → processed k ≡ true → (set.contains done k ≡ true) ⊎ (k < floor)

abbrev pub PacketsOk : Past → ℕ → Records → Records → NumberSet → ℕ → Type 0
PacketsOk p = PacketsTrue p.mine p.processed

-- Each frame that was taken took effect, for good.
abbrev pub TakenOk : Past → Tables RecvLane → Type 0
TakenOk p t = AllByRecursion (FrameTaken t) p.taken

-- The connection

-- The connection's own credit: what was sent is within what is known, that was told, and what is granted never falls below what was told.
pub record CreditTrue (mine theirs : Packets) (sent known granted first window : ℕ) : Type 0 where
  pub sent_known : sent ≤ known
  pub known_told : (known ≤ first) ⊎ Tells theirs (Control (MaxData known))
  pub window_granted : window ≤ granted
  pub granted_told : (limit : ℕ) → Tells mine (Control (MaxData limit)) → limit ≤ granted

abbrev pub CreditOk : Past → ℕ → ℕ → ℕ → ℕ → ℕ → Type 0
CreditOk p = CreditTrue p.mine p.theirs

-- Which streams are open: an own one is below the known count, and both its halves are; one of the peer was named by it.
pub record OpenTrue (theirs : Packets) (role : Role) (first_bidi first_uni known_bidi known_uni : ℕ) (sends recvs : ℕ → Bool) : Type 0 where
  pub own_send : (n : ℕ) → sends n ≡ true → is_own_by role n ≡ true → n / 4 < (if is_uni n then known_uni else known_bidi)
  pub own_recv : (n : ℕ) → recvs n ≡ true → is_own_by role n ≡ true → (is_uni n ≡ false) × (sends n ≡ true)
  pub own_both : (n : ℕ) → sends n ≡ true → is_own_by role n ≡ true → is_uni n ≡ false → recvs n ≡ true
  pub their_send : (n : ℕ) → sends n ≡ true → is_own_by role n ≡ false → (is_uni n ≡ false) × IsNamed theirs n
  pub their_recv : (n : ℕ) → recvs n ≡ true → is_own_by role n ≡ false → IsNamed theirs n
  pub bidi_told : (known_bidi ≤ first_bidi) ⊎ Tells theirs (Control (MaxStreams Bidi known_bidi))
  pub uni_told : (known_uni ≤ first_uni) ⊎ Tells theirs (Control (MaxStreams Uni known_uni))

abbrev pub OpenOk : Past → Role → ℕ → ℕ → ℕ → ℕ → (ℕ → Bool) → (ℕ → Bool) → Type 0
OpenOk p = OpenTrue p.theirs

abbrev pub is_open : {X : Type 0} → Tables X → ℕ → Bool
is_open t n = is_some (lookup t n)

-- The invariant of one end, with a number that is at most the known limit.
pub record EndHas (p : Past) (e : End) (sent : ℕ) : Type 0 where
  pub sends : (n : ℕ) → SendSlot p n (first_send_limit e n) (lookup e.sends n)
  pub recvs : (n : ℕ) → RecvSlot p n (first_window e n) (lookup e.recvs n)
  pub packets : PacketsOk p e.next e.outstanding e.lost.pieces e.done e.floor
  pub taken : TakenOk p e.recvs
  pub credit : CreditOk p sent e.known_data e.granted e.peer.max_data e.settings.conn_window
  pub streams : OpenOk p e.role e.peer.streams_bidi e.peer.streams_uni e.known_bidi e.known_uni (is_open e.sends) (is_open e.recvs)

-- The invariant of one end. That number is the sum of what was sent.
abbrev pub EndOk : Past → End → Type 0
EndOk p e = EndHas p e (all_sent e)

-- Each count of streams that an end told is at most the one that it grants, which never falls below the first (RFC 9000, section 4.6).
pub record CountsTrue (mine : Packets) (s : Settings) (granted : Dir → ℕ) : Type 0 where
  pub first_granted : (d : Dir) → first_grant s d ≤ granted d
  pub told : (d : Dir) (count : ℕ) → Tells mine (Control (MaxStreams d count)) → count ≤ granted d

abbrev pub CountsOk : Past → End → Type 0
CountsOk p e = CountsTrue p.mine e.settings (granted_streams e)

-- Two ends

pub record Standing : Type 0 where
  pub role : Role
  pub settings : Settings
  pub peer : PeerLimits

-- what no call of an end changes: its role, its settings, and what it was told of its peer's
abbrev pub standing : End → Standing
standing e = record { role = e.role; settings = e.settings; peer = e.peer }

abbrev pub role_of : Side → Role
role_of A = Client
role_of B = Server

abbrev pub settings_of : Settings → Settings → Side → Settings
settings_of a b A = a
settings_of a b B = b

-- an end from the first to the last, with the limits that it was told
abbrev pub stands_as : Settings → Settings → Side → PeerLimits → Standing
stands_as a b s told = record { role = role_of s; settings = settings_of a b s; peer = told }

-- a payload is read to its end, as frames that have a text
abbrev pub HasNoFault : List ℕ → Type 0
HasNoFault text = ((reading_of text).fault ≡ None) × AllByRecursion Fits (frames_of (reading_of text).left)

-- The invariant of a world: that of each end, about what it lived through; each end is sound, and what it sent was written; the limits
-- that it was told are granted; each payload that was made has no fault; each frame of streams and flow control that was taken was made
-- by the other, and each packet that was processed landed, as did each that it was told of by a token; and an end closes only where it
-- is told to, or sees the close of a peer that was.
pub record WorldOk (a b : Settings) (h : History) (w : World) : Type 0 where
  pub ends : (s : Side) → EndOk (past s h) (end_of w s)
  pub counts : (s : Side) → CountsOk (past s h) (end_of w s)
  pub sound : (s : Side) → IsSound (end_of w s)
  pub sent : (s : Side) → SentWasWritten (end_of w s)
  pub stand : (s : Side) → standing (end_of w s) ≡ stands_as a b s (end_of w s).peer
  pub peers : (s : Side) → AreGranted (end_of w s).peer (settings_of a b (other s))
  pub texts : (s : Side) → AllByRecursion HasNoFault (made s h)
  pub taken : (s : Side) (f : Seen) → Among f (taken s h) → is_ours f ≡ true → HasMade h (other s) f
  pub landed : (s : Side) (k : ℕ) → processed (other s) k h ≡ true → HasLanded h s k
  pub confirmed : (s : Side) (k : ℕ) → was_acked s k h ≡ true → HasLanded h s k
  pub unclosed : (s : Side) → StaysOpen h w s
