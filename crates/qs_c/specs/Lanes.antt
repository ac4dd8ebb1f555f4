-- Of public contracts.
-- How C is told how a stream stands: each half by a struct, all 0 where the half isn't there. All of it is ours.
use Rattle.std.specs.Prelude.{ℕ, false, Option, Some, None, is_some, unwrap_or}
use Rattle.qs_c.specs.declared.lane.GvSending.{GvSending}
use Rattle.qs_c.specs.declared.lane.GvReceiving.{GvReceiving}
use Rattle.qs_c.specs.declared.lane.GvLane.{GvLane}
use Rattle.qs_send.specs.declared.parts.SendState.{SendState}
use Rattle.qs_send.specs.declared.parts.SendState.TheVariants as sending
use Rattle.qs_recv.specs.declared.half.RecvState.{RecvState}
use Rattle.qs_recv.specs.declared.half.RecvState.TheVariants as receiving
use Rattle.qs_calls.specs.declared.report.LaneReport.{LaneReport}
use Rattle.qs_calls.specs.declared.report.SendReport.{SendReport}
use Rattle.qs_calls.specs.declared.report.RecvReport.{RecvReport}

abbrev pub send_number : SendState → ℕ
send_number sending.Ready = 0
send_number sending.Send = 1
send_number sending.DataSent = 2
send_number sending.DataRecvd = 3
send_number sending.ResetSent = 4
send_number sending.ResetRecvd = 5

abbrev pub recv_number : RecvState → ℕ
recv_number receiving.Recv = 0
recv_number receiving.SizeKnown = 1
recv_number receiving.DataRecvd = 2
recv_number receiving.DataRead = 3
recv_number receiving.ResetRecvd = 4
recv_number receiving.ResetRead = 5

abbrev pub sending_of : Option SendReport → GvSending
sending_of None = record { state = 0; has_final_size = false; was_reset = false; written = 0; limit = 0; final_size = 0; reset_code = 0 }
sending_of (Some r) = record { state = send_number r.state; has_final_size = is_some r.final_size; was_reset = is_some r.reset_code; written = r.written; limit = r.limit; final_size = unwrap_or r.final_size 0; reset_code = unwrap_or r.reset_code 0 }

abbrev pub receiving_of : Option RecvReport → GvReceiving
receiving_of None = record { state = 0; has_final_size = false; was_reset = false; was_stopped = false; read_count = 0; highest = 0; limit = 0; final_size = 0; reset_code = 0; stop_code = 0 }
receiving_of (Some r) = record { state = recv_number r.state; has_final_size = is_some r.final_size; was_reset = is_some r.reset_code; was_stopped = is_some r.stop_code; read_count = r.read_count; highest = r.highest; limit = r.limit; final_size = unwrap_or r.final_size 0; reset_code = unwrap_or r.reset_code 0; stop_code = unwrap_or r.stop_code 0 }

abbrev pub lane_of : LaneReport → GvLane
lane_of r = record { has_sending = is_some r.send; has_receiving = is_some r.recv; sending = sending_of r.send; receiving = receiving_of r.recv }
