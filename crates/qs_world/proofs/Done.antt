-- Where both ends are at rest, all is done.
use Rattle.std.proofs.Common.{◌≡◌, None, inl, inr, sym, ◌∙◌}
use Rattle.std.proofs.lemmas.Bool.{false≢true}
use Rattle.qs_calls.specs.declared.event.Side.{Side}
use Rattle.qs_calls.specs.declared.event.Side.TheVariants.{A, B}
use Rattle.qs_runs.specs.Logs.{other}
use Rattle.qs_runs.specs.Events.{Log, happened}
use Rattle.qs_calls.specs.declared.settings.Settings.{Settings}
use Rattle.qs_progress.specs.Comes.{BothOpen, IsComplete}
use Rattle.qs_progress.proofs.Comes.{all_complete}
use Rattle.qs_world.proofs.Untold.{never_told}
use Rattle.qs_runs.specs.Worlds.{World, Run, end_of}
use Rattle.qs_runs.proofs.Runs.{run_keeps, event_runs}
use Rattle.qs_rest.proofs.Idle.{idle_rests}
use Rattle.qs_rest.proofs.FirstLimits.{event_runs_tell}
use Rattle.qs_world.specs.Plays.{Played, HasAgreed}
use Rattle.qs_world.specs.Draining.{IsIdle, AreIdle}
use Rattle.qs_world.proofs.OneMore.{is_run}

each_idle : (w : World) → AreIdle w → (s : Side) → IsIdle (end_of w s)
each_idle w idle A = idle.0
each_idle w idle B = idle.1

-- no end of a script closes
pub both_open : (a b : Settings) (log : Log) (w : World) → Run a b (happened log) w → BothOpen w
both_open a b log w run t = elim ((run_keeps a b (happened log) w run).unclosed t (never_told t log)) [ inl open_end ↦ open_end | inr (told, code, is) ↦ absurd (false≢true (sym (never_told (other t) log) ∙ told)) ]

pub all_done : (p : Played) → HasAgreed p → AreIdle p.ends → IsComplete (happened p.log) p.ends
all_done p agreed idle =
    let a = p.ends.a.settings in
    let b = p.ends.b.settings in
    let h = happened p.log in
    let events = is_run a b p.log p.ends agreed in
    let run : Run a b h p.ends = event_runs a b p.log p.ends events in
    all_complete a b h p.ends run (λ t. let i = each_idle p.ends idle t in idle_rests a b h p.ends run t (both_open a b p.log p.ends run t) i.0 i.1 i.2) (event_runs_tell a b p.log p.ends events)
