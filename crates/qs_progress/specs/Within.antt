-- Of laws.
-- No packet holds an item whose value is above the present one, and none such was acknowledged (RFC 9000, sections 4.1, 4.6 and 13.3).
use Rattle.std.specs.Prelude.{◌≡◌, ◌≤◌, Bool, ◌⊎◌, Some}
use Rattle.qs_recv.specs.Lane.{RecvLane}
use Rattle.qs_send.specs.Lane.{SendLane}
use Rattle.qs_send.specs.Records.{IsCarried}
use Rattle.qs_send.specs.declared.piece.Item.{Item}
use Rattle.qs_send.specs.declared.piece.Item.TheVariants.{MaxData, MaxStreamData, MaxStreams, ResetStream, StopSending, DataBlocked, StreamDataBlocked, StreamsBlocked}
use Rattle.qs_send.specs.declared.piece.Piece.TheVariants.{Told}
use Rattle.qs_calls.specs.declared.settings.Settings.{Settings}
use Rattle.qs_calls.specs.declared.event.Side.{Side}
use Rattle.qs_machine.specs.Acked.{AckedItems, HasAcked}
use Rattle.qs_machine.specs.Ends.{End, send_lane, recv_lane}
use Rattle.qs_machine.specs.Credit.{granted_streams}
use Rattle.qs_machine.specs.Due.{known_count}
use Rattle.qs_machine.specs.FrameStep.{held}
use Rattle.qs_runs.specs.Logs.{History}
use Rattle.qs_runs.specs.Worlds.{World, end_of, Run}

-- the item was acknowledged with this value; a reset and a stop have but one, which isn't asked here
abbrev pub IsKept : AckedItems → Item → Type 0
IsKept a (StopSending n code) = ⊥
IsKept a item = HasAcked a item

-- the item stands in an outstanding packet or a lost one, or was acknowledged with this value
abbrev pub WasPut : End → Item → Type 0
WasPut e i = ((late : Bool) × IsCarried (held late e) (Told i)) ⊎ IsKept e.acked i

-- its value is at most the present one, for good; a reset and a stop are those of their half
abbrev pub IsWithin : End → Item → Type 0
IsWithin e (MaxData m) = m ≤ e.granted
IsWithin e (MaxStreamData n m) = (l : RecvLane) × (recv_lane e n ≡ Some l) × (m ≤ l.limit)
IsWithin e (MaxStreams d m) = m ≤ granted_streams e d
IsWithin e (ResetStream n code size) = (l : SendLane) × (send_lane e n ≡ Some l) × (l.was_reset ≡ Some (record { code = code; size = size }))
IsWithin e (StopSending n code) = (l : RecvLane) × (recv_lane e n ≡ Some l) × (l.stop_code ≡ Some code)
IsWithin e (DataBlocked m) = m ≤ e.known_data
IsWithin e (StreamDataBlocked n m) = (l : SendLane) × (send_lane e n ≡ Some l) × (m ≤ l.limit)
IsWithin e (StreamsBlocked d m) = m ≤ known_count e d

abbrev pub AllWithin : End → Type 0
AllWithin e = (i : Item) → WasPut e i → IsWithin e i

-- in every run, of both ends
abbrev pub ItemsAreWithin : Type 0
ItemsAreWithin = (a b : Settings) (h : History) (w : World) → Run a b h w → (s : Side) → AllWithin (end_of w s)
