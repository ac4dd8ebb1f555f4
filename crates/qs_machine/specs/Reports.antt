-- Trusted.
-- What an end tells of itself (RFC 9000, sections 3.1 and 3.2, for the whole file).
use Rattle.std.specs.Prelude.{ℕ, Option, None, Some, option_map}
use Rattle.qs_recv.specs.Lane.{RecvLane, highest, state as recv_state}
use Rattle.qs_send.specs.Lane.{SendLane, declared_size, state as send_state}
use Rattle.qs_send.specs.declared.parts.Reset.{Reset}
use Rattle.qs_calls.specs.declared.closing.Closing.{Closing}
use Rattle.qs_calls.specs.declared.closing.Closed.{Closed}
use Rattle.qs_calls.specs.declared.closing.Closed.TheVariants.{ByUs, ByPeer, Noted}
use Rattle.qs_calls.specs.declared.report.LaneReport.{LaneReport}
use Rattle.qs_calls.specs.declared.report.SendReport.{SendReport}
use Rattle.qs_calls.specs.declared.report.RecvReport.{RecvReport}
use Rattle.qs_machine.specs.Ends.{End, send_lane, recv_lane}

abbrev pub send_report : SendLane → SendReport
send_report l =
    record {
      state = send_state l;
      written = l.written;
      final_size = declared_size l;
      reset_code = option_map (λ (r : Reset). r.code) l.was_reset;
      limit = l.limit;
    }

abbrev pub recv_report : RecvLane → RecvReport
recv_report l =
    record {
      state = recv_state l;
      read_count = l.arrived.read_count;
      highest = highest l;
      limit = l.limit;
      final_size = l.final_size;
      reset_code = l.reset_code;
      stop_code = l.stop_code;
    }

abbrev pub report_if : Option SendLane → Option RecvLane → Option LaneReport
report_if None None = None
report_if (Some s) None = Some (record { send = Some (send_report s); recv = None })
report_if None (Some r) = Some (record { send = None; recv = Some (recv_report r) })
report_if (Some s) (Some r) = Some (record { send = Some (send_report s); recv = Some (recv_report r) })

-- the halves of a stream at this end, None where it isn't open
abbrev pub lane_report : End → ℕ → Option LaneReport
lane_report e n = report_if (send_lane e n) (recv_lane e n)

-- why this end closed, None where it is open, saw its peer close or was told (RFC 9000, section 10.2)
abbrev pub own_closing : Option Closed → Option Closing
own_closing None = None
own_closing (Some (ByUs closing)) = Some closing
own_closing (Some (ByPeer code)) = None
own_closing (Some (Noted close)) = None
