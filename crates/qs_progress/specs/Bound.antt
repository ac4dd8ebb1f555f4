-- Trusted.
-- What two ends did and know for good is bounded. The whole file is ours: RFC 9000 has no measure of a connection.
use Rattle.std.specs.Prelude.{ℕ, ◌+◌, ◌-◌, ◌*◌, ◌≤◌, length, Ok}
use Rattle.std.specs.List.{sum_by}
use Rattle.qs_wire.specs.declared.stream_id.Dir.TheVariants.{Bidi, Uni}
use Rattle.qs_calls.specs.declared.settings.Settings.{Settings}
use Rattle.qs_calls.specs.declared.event.Side.{Side}
use Rattle.qs_calls.specs.declared.event.Side.TheVariants.{A, B}
use Rattle.qs_machine.specs.Tables.{table}
use Rattle.qs_machine.specs.Ends.{End, own_type, first_window}
use Rattle.qs_machine.specs.Credit.{first_grant}
use Rattle.qs_machine.specs.Setting.{ConnWindow, Grant, StreamWindow}
use Rattle.qs_machine.specs.EndStep.{Call, Answer, Set}
use Rattle.qs_runs.specs.Logs.{History, Effect, Wrote, effects}
use Rattle.qs_runs.specs.Worlds.{World, end_of, Run}
use Rattle.qs_rest.specs.Resting.{KnowsFirstLimits}
use Rattle.qs_progress.specs.Score.{score_in}

abbrev pub bytes_in : Effect → ℕ
bytes_in (Wrote n bytes) = length bytes
bytes_in x = 0

-- how many streams an end opened
abbrev pub streams_at : End → ℕ
streams_at e = length (table e.sends (own_type e Bidi)) + length (table e.sends (own_type e Uni))

-- how far a call set a window or a grant beyond the first one
abbrev pub set_beyond : End → (call : Call) → Answer call → ℕ
set_beyond e (Set (ConnWindow window)) (Ok done) = window - e.settings.conn_window
set_beyond e (Set (Grant dir streams)) (Ok done) = streams - first_grant e.settings dir
set_beyond e (Set (StreamWindow stream window)) (Ok done) = window - first_window e stream
set_beyond e call answer = 0

-- what can be done for good, and no more
abbrev pub most : History → World → ℕ
most h w =
    9 * (sum_by bytes_in (effects A h) + sum_by bytes_in (effects B h)) + 20 * (streams_at w.a + streams_at w.b) + 6 + 3 * sum_by (λ x. set_beyond (end_of w x.end) x.call x.answer) h

-- in every run, once both ends know the first limits: what was done for good is no more
abbrev pub DoneIsBounded : Type 0
DoneIsBounded = (a b : Settings) (h : History) (w : World) → Run a b h w → ((s : Side) → KnowsFirstLimits w s) → score_in A h w + score_in B h w ≤ most h w
