-- Of private contracts.
-- Whether a frame of streams or of flow control that has no fault changes an end (RFC 9000, sections 3 and 19).
use Rattle.std.specs.Prelude.{ℕ, Bool, false, not, ◌&&◌, ◌||◌, length, Option, None, Some, is_some, is_none, nat_lt}
use Rattle.qs_wire.specs.declared.stream_id.Dir.TheVariants.{Bidi, Uni}
use Rattle.qs_recv.specs.Lane.{RecvLane, is_whole}
use Rattle.qs_recv.specs.Changes.{stream_changes}
use Rattle.qs_send.specs.Lane.{SendLane}
use Rattle.qs_send.specs.Changes.{changes_by_stop}
use Rattle.qs_send.specs.declared.piece.Item.{Item}
use Rattle.qs_send.specs.declared.piece.Item.TheVariants.{MaxData, MaxStreamData, MaxStreams, ResetStream, StopSending, DataBlocked, StreamDataBlocked, StreamsBlocked}
use Rattle.qs_machine.specs.Ends.{End, is_own, is_uni, send_lane, recv_lane}
use Rattle.qs_machine.specs.Seen.{Seen, Stream, Control}

-- the stream is the peer's, and a half of it isn't open yet
abbrev pub is_yet_to_open : End → ℕ → Bool
is_yet_to_open e n = not (is_own e n) && (is_none (recv_lane e n) || (not (is_uni n) && is_none (send_lane e n)))

-- whether a half changes, where there is one
abbrev pub half_changes : {L : Type 0} → (L → Bool) → Option L → Bool
half_changes changes None = false
half_changes changes (Some l) = changes l

-- a reset changes a half that wasn't reset, of which a byte is still to come
abbrev pub reset_changes : RecvLane → Bool
reset_changes l = not (is_some l.reset_code || is_whole l)

abbrev pub item_changes : End → Item → Bool
item_changes e (MaxData m) = nat_lt e.known_data m
item_changes e (MaxStreamData n m) = is_yet_to_open e n || half_changes (λ (l : SendLane). nat_lt l.limit m) (send_lane e n)
item_changes e (MaxStreams Bidi m) = nat_lt e.known_bidi m
item_changes e (MaxStreams Uni m) = nat_lt e.known_uni m
item_changes e (ResetStream n code size) = is_yet_to_open e n || half_changes reset_changes (recv_lane e n)
item_changes e (StopSending n code) = is_yet_to_open e n || half_changes (changes_by_stop e.tuning.answers_stops) (send_lane e n)
item_changes e (DataBlocked m) = false
item_changes e (StreamDataBlocked n m) = is_yet_to_open e n
item_changes e (StreamsBlocked d m) = false

abbrev pub changes : End → Seen → Bool
changes e (Stream n offset bytes fin) = is_yet_to_open e n || half_changes (λ l. stream_changes l offset (length bytes) fin) (recv_lane e n)
changes e (Control item) = item_changes e item
changes e f = false
