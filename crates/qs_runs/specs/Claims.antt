-- Of laws.
-- Numbers that the layer beneath claims, and the PING or the plain frames that go under each (RFC 9000, sections 12.3, 13.1 and 19.2).
use Rattle.std.specs.Prelude.{◌≡◌, ℕ, false, List, ◌∷◌, None, Some, Result, Ok}
use Rattle.qs_calls.specs.declared.settings.Settings.{Settings}
use Rattle.qs_calls.specs.declared.closing.Closing.{Closing}
use Rattle.qs_calls.specs.declared.closing.Received.{Received}
use Rattle.qs_calls.specs.declared.event.Side.{Side}
use Rattle.qs_machine.specs.Seen.{any_asks}
use Rattle.qs_machine.specs.Repeats.{OnlyRecords}
use Rattle.qs_machine.specs.Plains.{frames_in}
use Rattle.qs_machine.specs.EndStep.{Claim, Receive}
use Rattle.qs_runs.specs.Logs.{Happening, History, other, payload, was_noted_closed, ping_text}
use Rattle.qs_runs.specs.Worlds.{World, end_of, WorldStep, Run}

-- an end claimed a number
abbrev pub claimed : Side → ℕ → Happening
claimed s number = record { end = s; call = Claim; answer = Ok number }

-- a payload came to the end's peer under a number
abbrev pub came : Side → ℕ → List ℕ → Result Received Closing → Happening
came s number bytes result = record { end = other s; call = Receive number bytes; answer = result }

-- In every run
pub record ClaimsTellNothing (a b : Settings) (h : History) (v w : World) (s : Side) (number : ℕ) : Type 0 where
  -- the packet of a claimed number is a PING (section 12.3)
  pub ping : WorldStep h v (claimed s number) w → payload s number (claimed s number ∷ h) ≡ Some ping_text
  -- and what comes under it, of an end that was told of no close, has no fault, and nothing changes but that its number is recorded: be it the
  -- PING, or plain frames in its place or beside it (sections 13.1, 13.2.1 and 19)
  pub recorded : (bytes : List ℕ) (result : Result Received Closing) → payload s number h ≡ Some ping_text → was_noted_closed s h ≡ false → (end_of v (other s)).closed ≡ None →
      WorldStep h v (came s number bytes result) w → OnlyRecords number (any_asks (frames_in bytes)) result (end_of v (other s)) (end_of w (other s))

abbrev pub ClaimsAlwaysTellNothing : Type 0
ClaimsAlwaysTellNothing = (a b : Settings) (h : History) (v w : World) (s : Side) (number : ℕ) → Run a b h v → ClaimsTellNothing a b h v w s number
