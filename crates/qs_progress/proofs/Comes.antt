-- Rest comes: of two laps in a row, of which the second doesn't begin at rest, something is done for good. And with it comes all that holds
-- at rest.
use Rattle.std.proofs.Common.{ℕ, ◌+◌, ◌*◌, ◌≤◌, Bool, true, false, List, [], ◌∷◌, sym, subst, arith}
use Rattle.std.specs.Prelude.{⊤}
use Rattle.qs_calls.specs.declared.settings.Settings.{Settings}
use Rattle.qs_calls.specs.declared.event.Side.TheVariants.{A, B}
use Rattle.qs_machine.specs.EndStep.{Call}
use Rattle.qs_calls.specs.declared.event.Side.{Side}
use Rattle.qs_runs.specs.Logs.{History}
use Rattle.qs_runs.specs.Worlds.{World, Run}
use Rattle.qs_rest.specs.Resting.{KnowsFirstLimits}
use Rattle.qs_rest.proofs.Resting.{each_limit_known}
use Rattle.qs_rest.proofs.Streams.{each_credit_whole, each_reset_final}
use Rattle.qs_rest.proofs.Delivered.{each_credit_ahead, each_delivered}
use Rattle.qs_progress.specs.Score.{score}
use Rattle.qs_progress.specs.Laps.{Moment, IsCalm, Trail, Lap}
use Rattle.qs_progress.specs.Comes.{BothRest, BothOpen, IsReached, Course, RestComes, IsComplete, AllComes}
use Rattle.qs_progress.proofs.Score.{what_is_done_stays}
use Rattle.qs_progress.proofs.Bound.{is_below}
use Rattle.qs_progress.proofs.Trails.{trail_open, reached, eased}
use Rattle.qs_progress.proofs.Pairs.{laps_raise}
use Rattle.qs_progress.proofs.Sums.{steps_in, stretches_in}

-- what both ends did
abbrev pub both : World → ℕ
both w = score w.a + score w.b

-- both ends are at rest
abbrev pub Rests : Moment → Type 0
Rests m = BothRest m.ends

-- and all is delivered
abbrev pub Completes : Moment → Type 0
Completes m = IsComplete m.log m.ends

pub all_complete : (a b : Settings) (h : History) (w : World) → Run a b h w → BothRest w → ((s : Side) → KnowsFirstLimits w s) → IsComplete h w
all_complete a b h w run rests told =
    record {
      known = λ s. each_limit_known a b h w run rests s (told s);
      credit = each_credit_whole a b h w run rests;
      ahead = λ s. each_credit_ahead a b h w run rests s (told s);
      resets = each_reset_final a b h w run rests;
      delivered = λ s. each_delivered a b h w run rests s (told s);
    }

-- The steps of a course are trails.

pub laps_lead : (old new : Moment) → Lap old new → (ms : List Moment) × Trail (λ call. ⊤) old ms new
laps_lead old new lap = (lap.moments, eased IsCalm (λ call. ⊤) (λ call calm. tt) lap.moments old new lap.calm)

module _ (Step : Moment → Moment → Type 0) (lead : (old new : Moment) → Step old new → (ms : List Moment) × Trail (λ call. ⊤) old ms new) (P : Moment → Type 0) where
  pub course_open : (parts : List Bool) (old new : Moment) → Course Step P parts old new → BothOpen new.ends → BothOpen old.ends
  course_open [] old new is open_end = subst (λ (m : Moment). BothOpen m.ends) is open_end
  course_open (true ∷ parts) old new (begins, mid, step, rest) open_end =
      let (ms, trail) = lead old mid step in
      trail_open (λ call. ⊤) ms old mid trail (course_open parts mid new rest open_end)
  course_open (false ∷ parts) old new (ms, mid, stretch, rest) open_end = trail_open (λ call. ⊤) ms old mid stretch (course_open parts mid new rest open_end)

-- Trails

module _ (a b : Settings) where
  pub trail : (Is : Call → Type 0) (ms : List Moment) (old new : Moment) → IsReached a b old → Trail Is old ms new → IsReached a b new × (both old.ends ≤ both new.ends)
  trail Is [] old new r is = subst (λ m. IsReached a b m × (both old.ends ≤ both m.ends)) (sym is) (r, omega arith)
  trail Is (m ∷ ms) old new r ((x, kind, logged, step), rest) =
      let first = what_is_done_stays a b old.log old.ends m.ends x r.run step A (r.knows_first A) in
      let second = what_is_done_stays a b old.log old.ends m.ends x r.run step B (r.knows_first B) in
      let (there, later) = trail Is ms m new (reached a b old m x r logged step) rest in
      (there, omega (arith, first, second, later))

  lap : (old new : Moment) → IsReached a b old → Lap old new → IsReached a b new × (both old.ends ≤ both new.ends)
  lap old new r l = trail IsCalm l.moments old new r l.calm

  courses : (parts : List Bool) (old new : Moment) → IsReached a b old → Course Lap Rests parts old new → BothOpen new.ends → IsReached a b new × (steps_in parts + 2 * both old.ends ≤ 2 * both new.ends + stretches_in parts + 1)
  courses [] old new r is open_end = subst (λ m. IsReached a b m × (0 + 2 * both old.ends ≤ 2 * both m.ends + 0 + 1)) (sym is) (r, omega arith)
  courses (true ∷ []) old new r (begins, mid, first, is) open_end =
      let (there, more) = lap old mid r first in
      subst (λ m. IsReached a b m × (0 + 1 + 2 * both old.ends ≤ 2 * both m.ends + 0 + 1)) (sym is) (there, omega (arith, more))
  courses (true ∷ true ∷ parts) old new r (begins, mid, first, (goes_on, next, second, rest)) open_end =
      let (at_mid, more) = lap old mid r first in
      let (at_next, more_yet) = lap mid next at_mid second in
      let grew = laps_raise a b old mid next r first goes_on second (course_open Lap laps_lead Rests parts next new rest open_end) in
      let (there, later) = courses parts next new at_next rest open_end in
      (there, omega (arith, grew, later))
  courses (true ∷ false ∷ parts) old new r (begins, mid, first, (ms, next, stretch, rest)) open_end =
      let (at_mid, more) = lap old mid r first in
      let (at_next, more_yet) = trail (λ call. ⊤) ms mid next at_mid stretch in
      let (there, later) = courses parts next new at_next rest open_end in
      (there, omega (arith, more, more_yet, later))
  courses (false ∷ parts) old new r (ms, next, stretch, rest) open_end =
      let (at_next, more) = trail (λ call. ⊤) ms old next r stretch in
      let (there, later) = courses parts next new at_next rest open_end in
      (there, omega (arith, more, later))

  -- At rest all is delivered

  complete : (m : Moment) → IsReached a b m → Rests m → IsComplete m.log m.ends
  complete m r rests = all_complete a b m.log m.ends r.run rests r.knows_first

  module _ (Step : Moment → Moment → Type 0) (lead : (old new : Moment) → Step old new → (ms : List Moment) × Trail (λ call. ⊤) old ms new) where
    pub rest_misses : (parts : List Bool) (old new : Moment) → IsReached a b old → Course Step Completes parts old new → Course Step Rests parts old new
    rest_misses [] old new r is = is
    rest_misses (true ∷ parts) old new r (begins, mid, step, rest) =
        let (ms, led) = lead old mid step in
        (λ rests. begins (complete old r rests), mid, step, rest_misses parts mid new (trail (λ call. ⊤) ms old mid r led).0 rest)
    rest_misses (false ∷ parts) old new r (ms, mid, stretch, rest) =
        (ms, mid, stretch, rest_misses parts mid new (trail (λ call. ⊤) ms old mid r stretch).0 rest)

pub rest_comes : RestComes
rest_comes a b parts old new r course open_end =
    let (there, counted) = courses a b parts old new r course open_end in
    let few = is_below a b new.log new.ends there.run there.knows_first in
    omega (arith, counted, few)

pub all_comes : AllComes
all_comes a b parts old new r course open_end = rest_comes a b parts old new r (rest_misses a b Lap laps_lead parts old new r course) open_end
