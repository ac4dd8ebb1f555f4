-- Of laws.
-- Frames that were taken, and come again (RFC 9000, sections 2.2, 4.1 and 13.3).
use Rattle.std.specs.Prelude.{◌≡◌, true, List, Result}
use Rattle.std.specs.List.{AllByRecursion}
use Rattle.qs_wire.specs.Layout.{FrameValue}
use Rattle.qs_calls.specs.declared.settings.Settings.{Settings}
use Rattle.qs_calls.specs.declared.token.Taken.{Taken}
use Rattle.qs_calls.specs.declared.token.TakeFault.{TakeFault}
use Rattle.qs_calls.specs.declared.event.Side.{Side}
use Rattle.qs_send.specs.Records.{Among}
use Rattle.qs_machine.specs.Seen.{Seen, seen_all}
use Rattle.qs_machine.specs.Alone.{is_ours}
use Rattle.qs_machine.specs.EndStep.{TakeFrames}
use Rattle.qs_runs.specs.Logs.{History, taken}
use Rattle.qs_runs.specs.Worlds.{World, end_of, WorldStep, Run}

-- the frame took effect at this end before, with its packet or without it, or is of a kind that is the layer beneath's own affair
abbrev pub WasTaken : History → Side → Seen → Type 0
WasTaken h s f = is_ours f ≡ true → Among f (taken s h)

-- in every run, frames that come without their packet and that each took effect before change nothing
abbrev pub FramesRepeat : Type 0
FramesRepeat =
    (a b : Settings) (h : History) (v w : World) (s : Side) (fs : List FrameValue) (r : Result Taken TakeFault) → Run a b h v →
    AllByRecursion (WasTaken h s) (seen_all fs) → WorldStep h v (record { end = s; call = TakeFrames fs; answer = r }) w → end_of w s ≡ end_of v s
