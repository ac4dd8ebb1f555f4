-- Of laws.
-- What holds of an end in every run, beside the invariant of qs_runs: what was acknowledged was told, and what was told took effect.
use Rattle.std.specs.Prelude.{◌≡◌, ℕ, ◌<◌, ◌≤◌, Bool, true, ◌⊎◌, Some, is_some}
use Rattle.std.specs.List.{AllByRecursion}
use Rattle.std.specs.FinMap as fmap
use Rattle.std.specs.FinSet as set
use Rattle.qs_ranges.specs.Numbers.{MAX_VARINT}
use Rattle.qs_wire.specs.declared.stream_id.Dir.TheVariants.{Bidi, Uni}
use Rattle.qs_recv.specs.Lane.{RecvLane, is_whole}
use Rattle.qs_send.specs.Lane.{SendLane}
use Rattle.qs_send.specs.declared.piece.Item.{Item}
use Rattle.qs_send.specs.declared.piece.Item.TheVariants.{MaxData, MaxStreamData, MaxStreams, ResetStream, StopSending}
use Rattle.qs_machine.specs.Tables.{lookup}
use Rattle.qs_machine.specs.Ends.{End, AckedItems, first_send_limit}
use Rattle.qs_machine.specs.Seen.{Seen, Control}
use Rattle.qs_machine.specs.SettledLimits.{LimitsAreSettled}
use Rattle.qs_machine.specs.Standing.{CountsAreSettled}
use Rattle.qs_runs.specs.Pasts.{Past, Holds, WasConfirmed}

-- the item stood in a packet that was confirmed: an ACK of the peer named it, or its token was told (RFC 9000, section 13.3)
abbrev pub WasTold : Past → Item → Type 0
WasTold p i = (k : ℕ) × Holds p.mine k (Control i) × WasConfirmed p.theirs p.tokens k

-- a reset of the stream was told, and acknowledged
abbrev pub ResetTold : Past → ℕ → Type 0
ResetTold p n = (code size : ℕ) × WasTold p (ResetStream n code size)

-- each value that counts as acknowledged was told (RFC 9000, section 13.3)
pub record AckedTrue (p : Past) (a : AckedItems) : Type 0 where
  pub conn : (m : ℕ) → a.max_data ≡ Some m → WasTold p (MaxData m)
  pub streams : (n m : ℕ) → fmap.get a.max_stream_data n ≡ Some m → WasTold p (MaxStreamData n m)
  pub bidi : (m : ℕ) → a.bidi_streams ≡ Some m → WasTold p (MaxStreams Bidi m)
  pub uni : (m : ℕ) → a.uni_streams ≡ Some m → WasTold p (MaxStreams Uni m)
  pub stops : (n : ℕ) → set.contains a.stop_sending n ≡ true → (code : ℕ) × WasTold p (StopSending n code)

-- the owner finished, and every offset and the end were acknowledged (RFC 9000, section 3.1)
pub record IsAllAcked (l : SendLane) : Type 0 where
  pub finished : l.finished ≡ true
  pub end : l.fin_acked ≡ true
  pub offsets : (q : ℕ) → q < l.written → set.contains l.acked q ≡ true

-- A sending half: its limit is no lower than the first, no offset is past the largest integer, and a reset counts as acknowledged only
-- where it was told (RFC 9000, sections 4.1, 13.3 and 16).
pub record HalfTrue (p : Past) (n first : ℕ) (l : SendLane) : Type 0 where
  pub first_limit : first ≤ l.limit
  pub small : l.written ≤ MAX_VARINT
  pub reset_told : l.reset_acked ≡ true → ResetTold p n

-- A half whose reader has no byte to be told of, for good: after a reset, once it stopped, or at the final size (RFC 9000, sections 3.2 and
-- 3.5).
abbrev pub IsToldOf : RecvLane → Type 0
IsToldOf l = (is_some l.reset_code ≡ true) ⊎ (is_some l.stop_code ≡ true) ⊎ (l.final_size ≡ Some l.arrived.read_count)

-- a reader was told of the end, or wants to be told of nothing, only where that stands (RFC 9000, section 3.2)
abbrev pub ToldTrue : RecvLane → Type 0
ToldTrue l = l.reader_done ≡ true → IsToldOf l

-- What a STOP_SENDING did, for good: its stream was reset, or all of it was acknowledged, or its owner answers it and was told (RFC 9000,
-- section 3.5).
abbrev pub IsStopTaken : (answers : Bool) → SendLane → Type 0
IsStopTaken answers l = (is_some l.was_reset ≡ true) ⊎ IsAllAcked l ⊎ ((answers ≡ true) × (is_some l.stopped ≡ true))

-- what a control item did that was taken, with its packet or without it, for good (RFC 9000, sections 3.2, 3.5 and 4.1)
abbrev pub ItemTaken : End → Seen → Type 0
ItemTaken e (Control (MaxData m)) = m ≤ e.known_data
ItemTaken e (Control (MaxStreamData n m)) = (l : SendLane) × (lookup e.sends n ≡ Some l) × (m ≤ l.limit)
ItemTaken e (Control (MaxStreams Bidi m)) = m ≤ e.known_bidi
ItemTaken e (Control (MaxStreams Uni m)) = m ≤ e.known_uni
ItemTaken e (Control (ResetStream n code size)) = (l : RecvLane) × (lookup e.recvs n ≡ Some l) × ((is_some l.reset_code ≡ true) ⊎ (is_whole l ≡ true))
ItemTaken e (Control (StopSending n code)) = (l : SendLane) × (lookup e.sends n ≡ Some l) × IsStopTaken e.tuning.answers_stops l
ItemTaken e f = Unit {0}

-- what holds of one end
pub record RestOk (p : Past) (e : End) : Type 0 where
  pub conn : e.peer.max_data ≤ e.known_data
  pub bidi : e.peer.streams_bidi ≤ e.known_bidi
  pub uni : e.peer.streams_uni ≤ e.known_uni
  pub sends : (n : ℕ) (l : SendLane) → lookup e.sends n ≡ Some l → HalfTrue p n (first_send_limit e n) l
  pub acked : AckedTrue p e.acked
  pub told : (n : ℕ) (l : RecvLane) → lookup e.recvs n ≡ Some l → ToldTrue l
  pub taken : AllByRecursion (ItemTaken e) p.taken
  pub limits : LimitsAreSettled e
  pub counts : CountsAreSettled e
