-- Trusted.
-- What is reported of a world. The whole file is ours; what it tells are the states, sizes and credit of RFC 9000, sections 3 and 4.
use Rattle.std.specs.Prelude.{◌≡◌, ℕ, ◌*◌, Bool, true, false, List, [], ◌∷◌, ◌++◌, length, max, reverse, Option, None, Some}
use Rattle.std.specs.List.{flat_map, range_with_len}
use Rattle.qs_recv.specs.Lane.{RecvLane}
use Rattle.qs_send.specs.Lane.{SendLane, state, declared_size}
use Rattle.qs_send.specs.declared.parts.SendState.{SendState}
use Rattle.qs_send.specs.declared.parts.SendState.TheVariants.{DataRecvd}
use Rattle.qs_machine.specs.Tables.{Tables}
use Rattle.qs_machine.specs.Ends.{End, send_lane, recv_lane}
use Rattle.qs_machine.specs.Credit.{spent, all_stored}
use Rattle.qs_machine.specs.Reports.{own_closing}
use Rattle.qs_calls.specs.declared.event.Side.{Side}
use Rattle.qs_calls.specs.declared.event.Side.TheVariants.{A, B}
use Rattle.qs_world.specs.declared.report.LaneTotals.{LaneTotals}
use Rattle.qs_world.specs.declared.report.EndTotals.{EndTotals}
use Rattle.qs_world.specs.declared.report.Report.{Report}
use Rattle.qs_runs.specs.Logs.{other}
use Rattle.qs_runs.specs.Events.{Log}
use Rattle.qs_runs.specs.Worlds.{World, end_of}

abbrev pub is_received : SendState → Bool
is_received DataRecvd = true
is_received state = false

-- of a half that an end hasn't opened the counts are 0, and nothing is declared or known
abbrev pub written_of : Option SendLane → ℕ
written_of None = 0
written_of (Some l) = l.written

abbrev pub received_of : Option SendLane → Bool
received_of None = false
received_of (Some l) = is_received (state l)

abbrev pub declared_of : Option SendLane → Option ℕ
declared_of None = None
declared_of (Some l) = declared_size l

abbrev pub read_of : Option RecvLane → ℕ
read_of None = 0
read_of (Some r) = r.arrived.read_count

abbrev pub known_of : Option RecvLane → Option ℕ
known_of None = None
known_of (Some r) = r.final_size

abbrev pub totals_by : Side → ℕ → Option SendLane → Option RecvLane → List LaneTotals
totals_by s n None None = []
totals_by s n l r =
    record { sender = s; id = n; written = written_of l; read = read_of r; received = received_of l; declared = declared_of l; known = known_of r } ∷ []

-- the lane of a stream with that sender, where either end has opened it
abbrev pub lane_totals : World → Side → ℕ → List LaneTotals
lane_totals w s n = totals_by s n (send_lane (end_of w s) n) (recv_lane (end_of w (other s)) n)

-- the greatest number of streams of one type that are open
abbrev pub longest : {X : Type 0} → Tables X → ℕ
longest t = max (max (length t.client_bidi) (length t.server_bidi)) (max (length t.client_uni) (length t.server_uni))

-- every open stream has a number below this
abbrev pub stream_bound : World → ℕ
stream_bound w = 4 * max (max (longest w.a.sends) (longest w.a.recvs)) (max (longest w.b.sends) (longest w.b.recvs))

-- each lane of each stream that either end has opened, by stream number, A as sender before B
abbrev pub all_lanes : World → List LaneTotals
all_lanes w = flat_map (λ n. lane_totals w A n ++ lane_totals w B n) (range_with_len 0 (stream_bound w))

abbrev pub end_totals : End → EndTotals
end_totals e = record { spent = spent e; granted = e.granted; stored = all_stored e; closing = own_closing e.closed }

-- the report of a world and its log: it has the oldest event first
pub record IsReport (h : Log) (w : World) (report : Report) : Type 0 where
  pub log : report.log.items ≡ reverse h
  pub lanes : report.lanes.items ≡ all_lanes w
  pub ends : report.ends ≡ end_totals w.a ∷ end_totals w.b ∷ []
