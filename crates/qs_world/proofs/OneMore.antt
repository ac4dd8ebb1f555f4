-- Every run agrees, and so does a run with one step more. The settings of its ends stay.
use Rattle.std.proofs.Common.{◌≡◌, [], ◌∷◌, Some, Ok, ap, subst, sym, ◌∙◌}
use Rattle.qs_calls.specs.declared.settings.Settings.{Settings}
use Rattle.qs_calls.specs.declared.settings.PeerLimits.{PeerLimits}
use Rattle.qs_calls.specs.Settings.{limits_of}
use Rattle.qs_machine.specs.Ends.{End, end_made}
use Rattle.qs_wire.specs.declared.stream_id.Role.TheVariants.{Client, Server}
use Rattle.qs_calls.specs.declared.event.Event.{Event}
use Rattle.qs_calls.specs.declared.event.Side.TheVariants.{A, B}
use Rattle.qs_calls.specs.declared.answer.Answer.{Answer}
use Rattle.qs_runs.specs.Logs.{Happening}
use Rattle.qs_runs.specs.Events.{Log, call_of, happened, EventStep, EventRun, world_made}
use Rattle.qs_runs.specs.Worlds.{World, WorldStep, both_made}
use Rattle.std.proofs.lemmas.Option.{same_Some}
use Rattle.qs_world.specs.Plays.{AgreeingRun, HasAgreed}
use Rattle.qs_runs.specs.Invariant.{WorldOk}
use Rattle.qs_runs.proofs.Runs.{run_keeps, event_runs}
use Rattle.qs_runs.proofs.Clauses.{agrees, step_agrees}
use Rattle.qs_runs.proofs.Shown.{shown_agrees}

-- an agreeing run is a run of events
pub is_run : (a b : Settings) (log : Log) (w : World) → AgreeingRun a b log w → EventRun a b log w
is_run a b [] w r = r.0
is_run a b (x ∷ log) w (v, before, step, steps, rest) = (v, is_run a b log v before, step)

pub keeps : (a b : Settings) (log : Log) (w : World) → EventRun a b log w → WorldOk a b (happened log) w
keeps a b log w run = run_keeps a b (happened log) w (event_runs a b log w run)

-- the call that an event is
this_step : (log : Log) (v w : World) (event : Event) (answer : Answer) → EventStep log v event answer w → (y : Happening) → call_of (happened log) event.end event.act answer ≡ Some y → WorldStep (happened log) v y w
this_step log v w event answer (x, at, step) y is = subst (λ z. WorldStep (happened log) v z w) (same_Some x y (sym at ∙ is)) step

-- and every run of events is one
pub run_agrees : (a b : Settings) (log : Log) (w : World) → EventRun a b log w → AgreeingRun a b log w
run_agrees a b [] w is = (is, agrees a b [] w (keeps a b [] w is) (shown_agrees a b [] w (event_runs a b [] w is)))
run_agrees a b (x ∷ log) w (v, before, step) = (
  v,
  run_agrees a b log v before,
  step,
  λ y is. step_agrees a b (happened log) v (keeps a b log v before) y w (this_step log v w x.0 x.1 step y is),
  agrees a b (happened (x ∷ log)) w (keeps a b (x ∷ log) w (v, before, step)) (shown_agrees a b (happened (x ∷ log)) w (event_runs a b (x ∷ log) w (v, before, step))),
)

-- the settings of the ends stay
pub settings_a : (a b : Settings) (h : Log) (w : World) → EventRun a b h w → w.a.settings ≡ a
settings_a a b h w run = ap (λ x. x.settings) ((keeps a b h w run).stand A)

pub settings_b : (a b : Settings) (h : Log) (w : World) → EventRun a b h w → w.b.settings ≡ b
settings_b a b h w run = ap (λ x. x.settings) ((keeps a b h w run).stand B)

pub agreed_settings_a : (a b : Settings) (h : Log) (w : World) → AgreeingRun a b h w → w.a.settings ≡ a
agreed_settings_a a b h w run = settings_a a b h w (is_run a b h w run)

pub agreed_settings_b : (a b : Settings) (h : Log) (w : World) → AgreeingRun a b h w → w.b.settings ≡ b
agreed_settings_b a b h w run = settings_b a b h w (is_run a b h w run)

-- one step more
pub one_more : (a b : Settings) (h : Log) (v w : World) (event : Event) (answer : Answer) → AgreeingRun a b h v → EventStep h v event answer w → AgreeingRun a b ((event, answer) ∷ h) w
one_more a b h v w event answer before step = run_agrees a b ((event, answer) ∷ h) w (v, is_run a b h v before, step)

-- what was played agrees: the settings of its ends began the run
pub has_agreed : (a b : Settings) (h : Log) (w : World) → AgreeingRun a b h w → HasAgreed (record { log = h; ends = w })
has_agreed a b h w run =
    subst (λ x. AgreeingRun x w.b.settings h w) (sym (agreed_settings_a a b h w run))
    (subst (λ y. AgreeingRun a y h w) (sym (agreed_settings_b a b h w run)) run)

pub agreed_more : (h : Log) (v w : World) (event : Event) (answer : Answer) → HasAgreed (record { log = h; ends = v }) → EventStep h v event answer w → HasAgreed (record { log = (event, answer) ∷ h; ends = w })
agreed_more h v w event answer before step =
    has_agreed v.a.settings v.b.settings ((event, answer) ∷ h) w (one_more v.a.settings v.b.settings h v w event answer before step)

-- two new ends agree
pub agreed_first : (a b : Settings) (w : World) → world_made a b ≡ Ok w → HasAgreed (record { log = []; ends = w })
agreed_first a b w is = has_agreed a b [] w (run_agrees a b [] w is)

-- the same, where the parts are known by equations
pub agreed_new : (a b : Settings) (p q : PeerLimits) (x y : End) (h : Log) → p ≡ limits_of b → q ≡ limits_of a → Ok x ≡ end_made Client a p → Ok y ≡ end_made Server b q → h ≡ [] → HasAgreed (record { log = h; ends = record { a = x; b = y } })
agreed_new a b p q x y h is_p is_q is_x is_y none =
    let at_x : end_made Client a (limits_of b) ≡ Ok x = sym (is_x ∙ ap (λ l. end_made Client a l) is_p) in
    let at_y : end_made Server b (limits_of a) ≡ Ok y = sym (is_y ∙ ap (λ l. end_made Server b l) is_q) in
    let begins : world_made a b ≡ Ok (record { a = x; b = y }) = ap (λ e. both_made e (end_made Server b (limits_of a))) at_x ∙ ap (λ e. both_made (Ok x) e) at_y in
    subst (λ l. HasAgreed (record { log = l; ends = record { a = x; b = y } })) (sym none) (agreed_first a b (record { a = x; b = y }) begins)

pub agreed_by : (h mid new : Log) (v w : World) (event : Event) (answer : Answer) → HasAgreed (record { log = h; ends = v }) → mid ≡ h → new ≡ (event, answer) ∷ mid → EventStep mid v event answer w → HasAgreed (record { log = new; ends = w })
agreed_by h mid new v w event answer before same is step =
    subst (λ l. HasAgreed (record { log = l; ends = w })) (sym is) (agreed_more mid v w event answer (subst (λ l. HasAgreed (record { log = l; ends = v })) (sym same) before) step)
