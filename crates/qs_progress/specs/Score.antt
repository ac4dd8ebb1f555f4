-- Of laws.
-- What an end did and knows for good: a count that never falls. The whole file is ours: RFC 9000 has no measure of a connection.
use Rattle.std.specs.Prelude.{ℕ, ◌∷◌, ◌+◌, ◌-◌, ◌*◌, ◌≤◌, Bool, false, not, ◌&&◌, ◌||◌, nat_le, Option, None, Some, is_some, if◌then◌else◌}
use Rattle.std.specs.List.{range_with_len, sum_by}
use Rattle.std.specs.FinMap as fmap
use Rattle.std.specs.FinSet as set
use Rattle.qs_wire.specs.declared.stream_id.Dir.{Dir}
use Rattle.qs_wire.specs.declared.stream_id.Dir.TheVariants.{Bidi, Uni}
use Rattle.qs_recv.specs.Lane.{RecvLane}
use Rattle.qs_send.specs.Lane.{SendLane}
use Rattle.qs_send.specs.declared.piece.Item.{Item}
use Rattle.qs_send.specs.declared.piece.Item.TheVariants.{MaxData, MaxStreamData, MaxStreams, ResetStream, StopSending, DataBlocked, StreamDataBlocked, StreamsBlocked}
use Rattle.qs_calls.specs.declared.settings.Settings.{Settings}
use Rattle.qs_calls.specs.declared.settings.PeerLimits.{PeerLimits}
use Rattle.qs_calls.specs.declared.event.Side.{Side}
use Rattle.qs_machine.specs.Tables.{lookup, total}
use Rattle.qs_machine.specs.Ends.{End, AckedItems, is_own, first_send_limit, first_window}
use Rattle.qs_machine.specs.Credit.{granted_streams, first_grant}
use Rattle.qs_machine.specs.Due.{known_count}
use Rattle.qs_runs.specs.Logs.{Happening, History}
use Rattle.qs_runs.specs.Worlds.{World, end_of, WorldStep, Run}
use Rattle.qs_rest.specs.Resting.{KnowsFirstLimits}

abbrev pub one_if : Bool → ℕ
one_if b = if b then 1 else 0

-- a value is reached by one that isn't lower
abbrev pub reaches : Option ℕ → ℕ → Bool
reaches None value = false
reaches (Some most) value = nat_le value most

-- the item is acknowledged, with this value or a greater one; of a reset its half tells
abbrev pub is_done : AckedItems → Item → Bool
is_done a (MaxData m) = reaches a.max_data m
is_done a (MaxStreamData n m) = reaches (fmap.get a.max_stream_data n) m
is_done a (MaxStreams Bidi m) = reaches a.bidi_streams m
is_done a (MaxStreams Uni m) = reaches a.uni_streams m
is_done a (ResetStream n code size) = false
is_done a (StopSending n code) = set.contains a.stop_sending n
is_done a (DataBlocked m) = reaches a.data_blocked m
is_done a (StreamDataBlocked n m) = reaches (fmap.get a.stream_data_blocked n) m
is_done a (StreamsBlocked Bidi m) = reaches a.bidi_blocked m
is_done a (StreamsBlocked Uni m) = reaches a.uni_blocked m

-- how many values of an item are told for good, from the least one that ever is: each that the present one has passed, and that one once it
-- is acknowledged
abbrev pub told_from : (least present : ℕ) → (done : Bool) → ℕ
told_from least present done = (present - least) + one_if (nat_le least present && done)

-- of a sending half: what was acknowledged of it, whether it was stopped or reset, how far its limit rose, and at which limits it was blocked
abbrev pub sent_marks : End → ℕ → SendLane → ℕ
sent_marks e n l =
    set.len l.acked + one_if l.fin_acked + one_if l.reset_acked + one_if (is_some l.stopped || is_some l.was_reset)
    + (l.limit - first_send_limit e n)
    + told_from (first_send_limit e n) l.limit (is_done e.acked (StreamDataBlocked n l.limit))

-- of a receiving half: that the peer opened it, what came and what was read, whether its size, a reset and its end are known, that its stop
-- is acknowledged, and which limits are
abbrev pub got_marks : End → ℕ → RecvLane → ℕ
got_marks e n l =
    one_if (not (is_own e n)) + set.len l.arrived.received + l.arrived.read_count + one_if (is_some l.final_size) + one_if (is_some l.reset_code) + one_if l.reader_done
    + one_if (is_done e.acked (StopSending n 0))
    + told_from (first_window e n + 1) l.limit (is_done e.acked (MaxStreamData n l.limit))

-- of a half, where there is one
abbrev pub marks_of : {X : Type 0} → (X → ℕ) → Option X → ℕ
marks_of marks None = 0
marks_of marks (Some l) = marks l

-- of a stream's halves
abbrev pub stream_marks : End → ℕ → ℕ
stream_marks e n = marks_of (sent_marks e n) (lookup e.sends n) + marks_of (got_marks e n) (lookup e.recvs n)

-- how many streams of a direction the peer let this end open at first
abbrev pub first_count : PeerLimits → Dir → ℕ
first_count p Bidi = p.streams_bidi
first_count p Uni = p.streams_uni

-- of a direction: which counts of streams are acknowledged, how far the peer's count is known to have risen, and at which ones `open` was blocked
abbrev pub count_marks : End → Dir → ℕ
count_marks e d =
    told_from (first_grant e.settings d + 1) (granted_streams e d) (is_done e.acked (MaxStreams d (granted_streams e d)))
    + (known_count e d - first_count e.peer d)
    + told_from (first_count e.peer d) (known_count e d) (is_done e.acked (StreamsBlocked d (known_count e d)))

-- and the same of the connection's credit
abbrev pub credit_marks : End → ℕ
credit_marks e =
    told_from (e.settings.conn_window + 1) e.granted (is_done e.acked (MaxData e.granted))
    + (e.known_data - e.peer.max_data)
    + told_from e.peer.max_data e.known_data (is_done e.acked (DataBlocked e.known_data))

-- how many halves are open: no stream's index is as great
abbrev pub halves : End → ℕ
halves e = total (λ (l : SendLane). 1) e.sends + total (λ (l : RecvLane). 1) e.recvs

-- of all streams of a type
abbrev pub type_marks : End → ℕ → ℕ
type_marks e kind = sum_by (λ i. stream_marks e (i * 4 + kind)) (range_with_len 0 (halves e))

abbrev pub score : End → ℕ
score e = type_marks e 0 + type_marks e 1 + type_marks e 2 + type_marks e 3 + count_marks e Bidi + count_marks e Uni + credit_marks e

-- of a side in a run, by what happened: its end keeps all that counts
abbrev pub score_in : Side → History → World → ℕ
score_in s h w = score (end_of w s)

-- in every run, whatever happens: what an end did and knows for good stays so, once it was told its peer's true limits
abbrev pub WhatIsDoneStays : Type 0
WhatIsDoneStays =
    (a b : Settings) (h : History) (v w : World) (x : Happening) → Run a b h v → WorldStep h v x w → (s : Side) → KnowsFirstLimits v s → score_in s h v ≤ score_in s (x ∷ h) w
