-- Of laws.
-- Whether the present value of a control item was acknowledged: an ACK of a packet with that value begins it, a change of the value ends it,
-- and nothing else does (RFC 9000, section 13.3, for the whole file).
use Rattle.std.specs.Prelude.{◌≡◌, ℕ, List, ◌⊎◌, Some}
use Rattle.qs_recv.specs.Lane.{RecvLane}
use Rattle.qs_send.specs.Lane.{SendLane}
use Rattle.qs_send.specs.Records.{Among}
use Rattle.qs_send.specs.declared.piece.Item.{Item}
use Rattle.qs_send.specs.declared.piece.Item.TheVariants.{MaxData, MaxStreamData, MaxStreams, ResetStream, StopSending, DataBlocked, StreamDataBlocked, StreamsBlocked}
use Rattle.qs_send.specs.declared.piece.Piece.TheVariants.{Told}
use Rattle.qs_calls.specs.declared.settings.Settings.{Settings}
use Rattle.qs_calls.specs.declared.event.Side.{Side}
use Rattle.qs_machine.specs.Ends.{End, send_lane, recv_lane}
use Rattle.qs_machine.specs.Credit.{granted_streams}
use Rattle.qs_machine.specs.Due.{IsAcked, known_count}
use Rattle.qs_machine.specs.Seen.{Seen, Ack}
use Rattle.qs_machine.specs.FrameStep.{AckedPiece, named, frame_taken}
use Rattle.qs_runs.specs.Logs.{Happening, History}
use Rattle.qs_runs.specs.Worlds.{World, end_of, WorldStep, Run}
use Rattle.qs_progress.specs.Within.{IsKept}

-- the item has its present value, whether or not there is a reason to tell it
abbrev pub IsPresent : End → Item → Type 0
IsPresent e (MaxData m) = m ≡ e.granted
IsPresent e (MaxStreamData n m) = (l : RecvLane) × (recv_lane e n ≡ Some l) × (m ≡ l.limit)
IsPresent e (MaxStreams d m) = m ≡ granted_streams e d
IsPresent e (ResetStream n code size) = (l : SendLane) × (send_lane e n ≡ Some l) × (l.was_reset ≡ Some (record { code = code; size = size }))
IsPresent e (StopSending n code) = (l : RecvLane) × (recv_lane e n ≡ Some l) × (l.stop_code ≡ Some code)
IsPresent e (DataBlocked m) = m ≡ e.known_data
IsPresent e (StreamDataBlocked n m) = (l : SendLane) × (send_lane e n ≡ Some l) × (m ≡ l.limit)
IsPresent e (StreamsBlocked d m) = m ≡ known_count e d

-- the same item with another value; a reset and a stop keep theirs
abbrev pub IsOther : Item → Item → Type 0
IsOther (MaxData m) (MaxData k) = m ≡ k → ⊥
IsOther (MaxStreamData n m) (MaxStreamData r k) = (n ≡ r) × (m ≡ k → ⊥)
IsOther (MaxStreams d m) (MaxStreams c k) = (d ≡ c) × (m ≡ k → ⊥)
IsOther (DataBlocked m) (DataBlocked k) = m ≡ k → ⊥
IsOther (StreamDataBlocked n m) (StreamDataBlocked r k) = (n ≡ r) × (m ≡ k → ⊥)
IsOther (StreamsBlocked d m) (StreamsBlocked c k) = (d ≡ c) × (m ≡ k → ⊥)
IsOther i j = ⊥

-- As something happens, a present value that was acknowledged stays so, and a new value isn't.
pub record GoesByValue (old new : End) : Type 0 where
  pub stays : (i : Item) → IsAcked old i → IsPresent new i → IsAcked new i
  pub ends : (i j : Item) → IsOther i j → IsPresent old i → IsPresent new j → IsAcked new j → ⊥

-- so it is in every run, of both ends, whatever happens
abbrev pub AcknowledgedGoesByValue : Type 0
AcknowledgedGoesByValue =
    (a b : Settings) (h : History) (v w : World) (x : Happening) → Run a b h v → WorldStep h v x w → (s : Side) → GoesByValue (end_of v s) (end_of w s)

-- an ACK acknowledges the present value of each item that a packet has which it names, in flight or lost
abbrev pub AcksTellPresent : Type 0
AcksTellPresent =
    (a b : Settings) (h : History) (w : World) → Run a b h w → (s : Side) (largest : ℕ) (ranges : List (ℕ × ℕ)) (p : AckedPiece) (i : Item) → Among p (named (end_of w s) ranges) → p.piece ≡ Told i →
    IsPresent (end_of w s) i → IsAcked (frame_taken (Ack largest ranges) (end_of w s)) i

-- the piece stands in a packet that the frame, an ACK, names
abbrev pub IsNamedBy : Seen → End → AckedPiece → Type 0
IsNamedBy (Ack largest ranges) e p = Among p (named e ranges)
IsNamedBy f e p = ⊥

-- and no other frame acknowledges a value
abbrev pub OnlyAcksTell : Type 0
OnlyAcksTell = (e : End) (f : Seen) (i : Item) → IsKept (frame_taken f e).acked i → IsKept e.acked i ⊎ ((p : AckedPiece) × IsNamedBy f e p × (p.piece ≡ Told i))
