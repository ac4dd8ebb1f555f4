-- Of laws.
-- How limits stand between calls (RFC 9000, sections 4.1 and 4.2).
use Rattle.std.specs.Prelude.{◌≡◌, ℕ, None, Some, Ok}
use Rattle.qs_wire.specs.declared.stream_id.Role.{Role}
use Rattle.qs_recv.specs.Lane.{RecvLane, taken, next_limit}
use Rattle.qs_calls.specs.declared.settings.Settings.{Settings}
use Rattle.qs_calls.specs.declared.settings.Tuning.{Tuning}
use Rattle.qs_calls.specs.declared.settings.PeerLimits.{PeerLimits}
use Rattle.qs_machine.specs.Ends.{End, recv_lane, wide_end_made}
use Rattle.qs_machine.specs.Credit.{all_taken}
use Rattle.qs_machine.specs.EndStep.{Call, Answer, EndStep}

-- Each limit is its own next one: the connection's, and that of each receiving half whose final size isn't known.
pub record LimitsAreSettled (e : End) : Type 0 where
  pub connection : next_limit e.granted (all_taken e) e.present.conn_window e.tuning.credit_step ≡ e.granted
  pub streams : (n : ℕ) (l : RecvLane) → recv_lane e n ≡ Some l → l.final_size ≡ None → next_limit l.limit (taken l) l.window l.share ≡ l.limit

-- a new end grants what it sets out with, and nothing was taken
abbrev pub NewEndsSettleLimits : Type 0
NewEndsSettleLimits = (role : Role) (s : Settings) (t : Tuning) (p : PeerLimits) (e : End) → wide_end_made role s t p ≡ Ok e → LimitsAreSettled e

-- as each call ends, whatever it answers, the limits are settled
abbrev pub CallsSettleLimits : Type 0
CallsSettleLimits = (old : End) (call : Call) (answer : Answer call) (new : End) → LimitsAreSettled old → EndStep old call answer new → LimitsAreSettled new
