-- Trusted.
-- A plain loop comes to rest: a number bounds its events. The whole file is ours: RFC 9000 has no rounds.
use Rattle.std.specs.Prelude.{◌≡◌, ℕ, ◌+◌, ◌*◌, ◌≤◌, Bool, true, false, ◌&&◌, if◌then◌else◌, take, Some, Result, Ok, Err, ⊤}
use Rattle.std.specs.List.{list_any, sum_by}
use Rattle.std.specs.FinMap as fmap
use Rattle.qs_calls.specs.declared.answer.Answer.{Answer}
use Rattle.qs_calls.specs.declared.answer.Answer.TheVariants as answers
use Rattle.qs_calls.specs.declared.closing.Received.TheVariants.{Done}
use Rattle.qs_calls.specs.declared.event.Side.{Side}
use Rattle.qs_calls.specs.declared.event.Side.TheVariants.{A, B}
use Rattle.qs_runs.specs.Logs.{same_side}
use Rattle.qs_runs.specs.Events.{happened}
use Rattle.qs_runs.specs.Worlds.{end_of}
use Rattle.qs_rest.specs.Resting.{HasRoom}
use Rattle.qs_progress.specs.Bound.{most}
use Rattle.qs_progress.specs.Windows.{AreAsWide, Widths, filled}
use Rattle.qs_world.specs.declared.report.PlayFault.{PlayFault}
use Rattle.qs_world.specs.declared.world.draining.Drained.{Drained}
use Rattle.qs_world.specs.declared.world.draining.Drained.TheVariants.{UsedUp}
use Rattle.qs_world.specs.Plays.{Played}

-- the call was refused, or the packet wasn't taken in whole
abbrev pub is_refused : Answer → Bool
is_refused (answers.Make (Err fault) text) = true
is_refused (answers.Lose (Err fault)) = true
is_refused (answers.Deliver (Ok Done)) = false
is_refused (answers.Deliver result) = true
is_refused answer = false

-- the answer tells that no packet was made
abbrev pub makes_none : Answer → Bool
makes_none (answers.Make (Ok (Some made)) text) = false
makes_none (answers.Make answer text) = true
makes_none answer = false

-- All that were allowed happened, and the ends aren't at rest. Then one of these events was refused; or that was too few: no more than one
-- for each packet that was outstanding, eight for each thing that can be done for good, and thirteen. And where each end sent fewer than
-- 2^62 - 1 bytes, A's turn ended no more often than twice for each width that was filled, and six times: so many rounds there were.
abbrev pub ComesToRest : Played → ℕ → Result Drained PlayFault → Played → Type 0
ComesToRest old allowed (Ok UsedUp) new = list_any (λ x. is_refused x.1) (take allowed new.log) ≡ false →
    (allowed ≤ fmap.len old.ends.a.outstanding + fmap.len old.ends.b.outstanding + 8 * most (happened new.log) new.ends + 13)
    × ((k : Side → Widths) → ((s : Side) → AreAsWide (k s) (end_of old.ends s)) → ((s : Side) → HasRoom new.ends s) →
    sum_by (λ x. if same_side A x.0.end && makes_none x.1 then 1 else 0) (take allowed new.log) ≤ 2 * (filled (k B) old.ends.a new.ends.a + filled (k A) old.ends.b new.ends.b) + 6)
ComesToRest old allowed result new = ⊤
