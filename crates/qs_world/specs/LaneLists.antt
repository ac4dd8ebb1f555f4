-- Of private contracts.
-- The lanes of a world, stream by stream, as both ends report them.
use Rattle.std.specs.Prelude.{ℕ, List, ◌++◌, Option, None, Some, unwrap_or}
use Rattle.std.specs.List.{flat_map, range_with_len}
use Rattle.qs_send.specs.declared.parts.SendState.TheVariants.{Ready}
use Rattle.qs_recv.specs.declared.half.RecvState.TheVariants.{Recv}
use Rattle.qs_calls.specs.declared.report.LaneReport.{LaneReport}
use Rattle.qs_calls.specs.declared.report.SendReport.{SendReport}
use Rattle.qs_calls.specs.declared.report.RecvReport.{RecvReport}
use Rattle.qs_calls.specs.declared.event.Side.{Side}
use Rattle.qs_calls.specs.declared.event.Side.TheVariants.{A, B}
use Rattle.qs_world.specs.declared.report.LaneTotals.{LaneTotals}
use Rattle.qs_world.specs.Reports.{is_received, lane_totals}
use Rattle.qs_runs.specs.Worlds.{World}

-- what an end tells of its sending half
abbrev pub sending : Option LaneReport → Option SendReport
sending None = None
sending (Some report) = report.send

-- what an end tells of its receiving half
abbrev pub receiving : Option LaneReport → Option RecvReport
receiving None = None
receiving (Some report) = report.recv

-- a half that an end hasn't opened
abbrev pub never_sent : SendReport
never_sent = record { state = Ready; written = 0; final_size = None; reset_code = None; limit = 0 }

abbrev pub never_received : RecvReport
never_received = record { state = Recv; read_count = 0; highest = 0; limit = 0; final_size = None; reset_code = None; stop_code = None }

abbrev pub joined : Side → ℕ → SendReport → RecvReport → LaneTotals
joined s n sent read =
    record { sender = s; id = n; written = sent.written; read = read.read_count; received = is_received sent.state; declared = sent.final_size; known = read.final_size }

-- the lane of a stream with that sender, from what is told of its two halves
abbrev pub asked_lane : Side → ℕ → Option SendReport → Option RecvReport → Option LaneTotals
asked_lane s n None None = None
asked_lane s n sent read = Some (joined s n (unwrap_or sent never_sent) (unwrap_or read never_received))

-- the lanes of a stream, A as sender first
abbrev pub lanes_of : World → ℕ → List LaneTotals
lanes_of w n = lane_totals w A n ++ lane_totals w B n

-- the lanes of so many streams, from a number on
abbrev pub lanes_from : World → ℕ → ℕ → List LaneTotals
lanes_from w first count = flat_map (lanes_of w) (range_with_len first count)
