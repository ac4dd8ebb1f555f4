-- Of public contracts.
-- Which frames change a sending lane (RFC 9000, section 3.5).
use Rattle.std.specs.Prelude.{Bool, if◌then◌else◌, ◌&&◌, is_none}
use Rattle.qs_send.specs.Lane.{SendLane, reset_refusal}

-- whether a STOP_SENDING changes a lane: it can be reset still (RFC 9000, section 3.5)
abbrev pub stop_changes : SendLane → Bool
stop_changes lane = is_none (reset_refusal lane)

-- whether one changes a lane whose owner answers it: it can be reset still, and none came before (ours, beside RFC 9000, section 3.5)
abbrev pub asked_changes : SendLane → Bool
asked_changes lane = is_none (reset_refusal lane) && is_none lane.stopped

-- the same, whether or not the owner answers it (RFC 9000, section 3.5)
abbrev pub changes_by_stop : (owner_answers : Bool) → SendLane → Bool
changes_by_stop owner_answers lane = if owner_answers then asked_changes lane else stop_changes lane
