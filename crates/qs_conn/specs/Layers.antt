-- Of private contracts.
-- What the private layers of an endpoint keep beside their values.
use Rattle.std.specs.Prelude.{◌≡◌, ℕ, ◌<◌, ◌^◌, Bool, if◌then◌else◌, Option, None, Some, is_some, is_none, ⊤}
use Rattle.qs_recv.specs.Lane.{RecvLane, is_whole}
use Rattle.qs_calls.specs.declared.uses.UseFault.{UseFault}
use Rattle.qs_calls.specs.declared.uses.UseFault.TheVariants as uses
use Rattle.qs_calls.specs.declared.closing.Closed.{Closed}
use Rattle.qs_calls.specs.declared.closing.Closed.TheVariants.{ByUs, ByPeer, Noted}
use Rattle.qs_machine.specs.Ends.{End, send_lane, recv_lane}
use Rattle.qs_machine.specs.Owner.{first_refusal, refuse_if, no_half}
use Rattle.qs_wire.specs.Layout.{PlacedValue}
use Rattle.qs_conn.specs.declared.endpoint.receiving.Progress.{Progress}
use Rattle.qs_conn.specs.declared.endpoint.receiving.Progress.TheVariants as progress
use Rattle.qs_machine.specs.Seen.{seen, asks_ack}
use Rattle.qs_machine.specs.FrameStep.{frame_taken}
use Rattle.qs_machine.specs.Receiving.{Stops, GoesOn}
pub use Rattle.qs_machine.specs.Heard.{limit_to_tell}

-- the code of a stop, while more may come (RFC 9000, section 3.5)
abbrev pub stop_to_tell : Option RecvLane → Option ℕ
stop_to_tell None = None
stop_to_tell (Some lane) = if is_some lane.reset_code then None else (if is_whole lane then None else lane.stop_code)

-- why a stream can't be sent on: the end is closed, or there is no such half
abbrev pub no_sender : End → ℕ → Option UseFault
no_sender e n = first_refusal (refuse_if (is_some e.closed) uses.Closed) (refuse_if (is_none (send_lane e n)) (no_half (is_some (recv_lane e n))))

-- why a stream can't be read or stopped: the end is shut for it, or there is no such half
abbrev pub no_receiver : Bool → End → ℕ → Option UseFault
no_receiver is_shut e n = first_refusal (refuse_if is_shut uses.Closed) (refuse_if (is_none (recv_lane e n)) (no_half (is_some (send_lane e n))))

-- the numbers of this end's own closing have a spelling (RFC 9000, section 16)
abbrev pub ClosingFits : Option Closed → Type 0
ClosingFits None = ⊤
ClosingFits (Some (ByPeer code)) = ⊤
ClosingFits (Some (Noted close)) = ⊤
ClosingFits (Some (ByUs closing)) = (closing.code < 2 ^ 62) × (closing.frame_type < 2 ^ 62)

-- one frame takes effect and the processing goes on, asking for an ACK or not, or the processing ends with it
abbrev pub TakesFrame : PlacedValue → End → Progress → End → Type 0
TakesFrame p old (progress.GoesOn asks) new = GoesOn old (seen p.frame) × (asks ≡ asks_ack (seen p.frame)) × (new ≡ frame_taken (seen p.frame) old)
TakesFrame p old (progress.Ends result) new = Stops p (seen p.frame) old result new
