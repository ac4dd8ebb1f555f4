-- Of public contracts.
-- Scripts of random events.
use Rattle.std.specs.Prelude.{◌≡◌, ℕ, List, [], ◌∷◌, length, map, reverse, true}
use Rattle.std.specs.List.{list_all}
use Rattle.rand_pcg.specs.Lcg.{Lcg, started, increment_of}
use Rattle.rand_pcg.specs.Pcg.{multiplier_64}
use Rattle.qs_machine.specs.Examples.{standard}
use Rattle.qs_calls.specs.declared.event.Event.{Event}
use Rattle.qs_world.specs.Draws.{draw, after, side_drawn, kind_of, IsDrawn}
use Rattle.qs_calls.specs.declared.answer.Answer.{Answer}
use Rattle.qs_calls.specs.Events.{fits}
use Rattle.qs_runs.specs.Logs.{made}
use Rattle.qs_runs.specs.Events.{Log, happened, EventStep, EventRun}
use Rattle.qs_runs.specs.Worlds.{World}
use Rattle.qs_world.specs.Plays.{Played}

-- the generator that a seed determines
abbrev pub seeded : ℕ → Lcg
seeded seed = started 64 multiplier_64 seed (increment_of 64 0)

-- The event is the one that the generator's next words choose, after what happened before; the generator is the latter after it.
abbrev pub IsNext : Log → Lcg → Event → Lcg → Type 0
IsNext log g event new =
    (event.end ≡ side_drawn g) × IsDrawn (kind_of (draw 16 (after g))) (length (made (side_drawn g) (happened log))) (after (after g)) event.act new

-- the events of a log, the newest first, were drawn one after the other from the first generator on
abbrev pub IsDrawnLog : Lcg → Log → Lcg → Type 0
IsDrawnLog first [] last = last ≡ first
IsDrawnLog first (x ∷ h) last = (g : Lcg) × IsDrawnLog first h g × IsNext h g x.0 last

-- One more event happens, and fits: it is the one that the generator's next words choose, and the generator is the latter after it.
abbrev pub DrawnStep : Played → Lcg → Played → Lcg → Type 0
DrawnStep old g new last =
    (event : Event) × (answer : Answer)
    × (new.log ≡ (event, answer) ∷ old.log) × EventStep old.log old.ends event answer new.ends × IsNext old.log g event last × (fits event ≡ true)

-- So many events happened, each of which fits, between two ends of the standard settings: they were drawn one after the other from the
-- first generator on.
pub record IsDrawnRun (first : Lcg) (n : ℕ) (p : Played) (last : Lcg) : Type 0 where
  pub run : EventRun standard standard p.log p.ends
  pub drawn : IsDrawnLog first p.log last
  pub count : length p.log ≡ n
  pub fit : list_all (λ x. fits x.0) p.log ≡ true

-- n events, drawn one after the other, each by the packets made in a run of those before it between two ends of the standard settings
abbrev pub IsRandomScript : Lcg → ℕ → List Event → Type 0
IsRandomScript first n events =
    (log : Log) × (w : World) × (last : Lcg)
    × EventRun standard standard log w × IsDrawnLog first log last × (events ≡ map (λ x. x.0) (reverse log)) × (length events ≡ n)
