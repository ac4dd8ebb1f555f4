-- Plain rounds: what leads two ends to rest.
use Rattle.std.proofs.Common.{◌≡◌, List, ℕ, suc, ◌-◌, ◌<◌, Bool, true, false, None, Some, Result, Ok, Err, refl, sym, ap, ◌∙◌, subst, arith, if◌then◌else◌}
use Rattle.std.specs.Prelude.{⊤, MatchBool}
use Rattle.std.proofs.lemmas.Bool.{true≢false}
use Rattle.std.proofs.lemmas.Option.{none-some}
use Rattle.qs_machine.specs.Ends.{End, Records}
use Rattle.qs_machine.specs.Asking.{GoesBesideAck, IsNextOutstanding}
use Rattle.qs_machine.specs.News.{IsLeast, IsReadable}
use Rattle.qs_calls.specs.declared.event.Event.{Event}
use Rattle.qs_calls.specs.declared.settings.Settings.{Settings}
use Rattle.qs_world.specs.declared.report.Report.{Report}
use Rattle.qs_world.specs.declared.report.PlayFault.{PlayFault}
use Rattle.qs_world.specs.declared.report.PlayFault.TheVariants as faults
use Rattle.qs_world.specs.declared.world.draining.Drained.{Drained}
use Rattle.qs_world.specs.declared.world.draining.Drained.TheVariants.{AtRest}
use Rattle.qs_world.specs.declared.world.draining.Turn.{Turn}
use Rattle.qs_world.specs.Plays.{Played, HasAgreed, HasPlayed, PlayStep}
use Rattle.qs_world.specs.Draining.{IsIdle, AreIdle, IsOf, IsOver, HasDrained, DrainStep, last_makes_none, next_turn, turn_after, DrainedReport, DrainedPlayOf}
use Rattle.qs_world.proofs.Done.{all_done}

-- what is found isn't missing
pub some_outstanding : (m : Records) (k : ℕ) → IsNextOutstanding m 0 (Some k) → IsNextOutstanding m 0 None → ⊥
some_outstanding m k found none = true≢false (sym found.held ∙ none k (omega arith))

pub some_least : (P : ℕ → Type 0) (n : ℕ) → IsLeast P 0 (Some n) → IsLeast P 0 None → ⊥
some_least P n is none =
    let (m, at, le) = none.least n (omega arith) (is.found n refl).1 in
    none-some m at

pub idle_by : (e : End) (result : Bool) → (GoesBesideAck e → ⊥) → IsNextOutstanding e.outstanding 0 None → MatchBool result (IsLeast (IsReadable e) 0 None) (IsLeast (IsReadable e) 0 None → ⊥) → MatchBool result (IsIdle e) (IsIdle e → ⊥)
idle_by e true quiet landed read = (quiet, landed, read)
idle_by e false quiet landed unread = λ idle. unread idle.2

pub is_readable_next : (e x : End) (from n : ℕ) → x ≡ e → IsLeast (IsReadable x) from (Some n) → IsReadable e n
is_readable_next e x from n same found = subst (λ y. IsReadable y n) same (found.found n refl).1

pub both_then : (P Q : Type 0) (p q : Bool) → p ≡ true → MatchBool p P (P → ⊥) → MatchBool q Q (Q → ⊥) → MatchBool q (P × Q) (P × Q → ⊥)
both_then P Q true true is one two = (one, two)
both_then P Q true false is one two = λ both. two both.1
both_then P Q false q is one two = absurd (true≢false (sym is))

pub both_else : (P Q : Type 0) (p : Bool) → p ≡ false → MatchBool p P (P → ⊥) → MatchBool p (P × Q) (P × Q → ⊥)
both_else P Q true is one = absurd (true≢false is)
both_else P Q false is one = λ both. one both.0

-- the loop

-- a turn that is over is passed by
pub drains_past : (old new : Played) (most left : ℕ) (turn after : Turn) → HasDrained old most new left turn → IsOver turn new.ends → after ≡ next_turn turn → HasDrained old most new left after
drains_past old new most left turn after (n, before, passed, sum, steps, passes) over is = (n, before, suc passed, sum, steps, (turn, passes, over, is))

-- one event more
pub drains_more : (old mid new : Played) (most left : ℕ) (turn after : Turn) (event : Event) → 0 < left → HasDrained old most mid left turn
    → (AreIdle mid.ends → ⊥) → IsOf turn mid event → PlayStep {X = ⊤} mid event (Ok tt) new → after ≡ (if last_makes_none new.log then next_turn turn else turn) → HasDrained old most new (left - 1) after
drains_more old mid new most left turn after event some (n, before, passed, sum, steps, passes) busy of (answer, log, step) is =
    let said : after ≡ turn_after turn answer = is ∙ ap (λ h. if last_makes_none h then next_turn turn else turn) log in
    (suc n, after, 0, omega (arith, sum, some), (before, turn, passed, mid, steps, passes, (event, answer, busy, of, log, step, said)), refl)

pub turn_then : (last b : Bool) (next turn after : Turn) → b ≡ last → b ≡ true → after ≡ next → after ≡ (if last then next else turn)
turn_then true b next turn after same is e = e
turn_then false b next turn after same is e = absurd (true≢false (sym is ∙ same))

pub turn_else : (last b : Bool) (next turn : Turn) → b ≡ last → b ≡ false → turn ≡ (if last then next else turn)
turn_else true b next turn same is = absurd (true≢false (sym same ∙ is))
turn_else false b next turn same is = refl

-- what it came to
pub drained_to_rest : (old new : Played) (most left : ℕ) (turn : Turn) → HasDrained old most new left turn → AreIdle new.ends → HasAgreed new → DrainStep old most (Ok AtRest) new
drained_to_rest old new most left turn (n, before, passed, sum, steps, passes) idle agreed = (n, before, omega (arith, sum), steps, (idle, all_done new agreed idle))

-- plays

pub drained_play : (a b : Settings) (events : List Event) (most : ℕ) (old : Played) (result : Result (Report × Drained) PlayFault) → HasPlayed a b events old →
    DrainedReport old most result → DrainedPlayOf a b events most result
drained_play a b events most old (Ok told) played is = (old, played, is)
drained_play a b events most old (Err (faults.NoSuchPacket k)) played is = absurd is
drained_play a b events most old (Err faults.NoMemory) played is = tt
drained_play a b events most old (Err (faults.Setup fault)) played is = absurd is
