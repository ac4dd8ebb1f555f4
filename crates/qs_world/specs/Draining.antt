-- Trusted.
-- Plain rounds: two ends are led to rest. The whole file is ours: RFC 9000 has no rounds.
use Rattle.std.specs.Prelude.{◌≡◌, ℕ, zero, suc, ◌+◌, ◌≤◌, Bool, true, false, List, [], ◌∷◌, Option, None, Some, Result, Ok, Err, ⊤, if◌then◌else◌}
use Rattle.std.specs.FinMap as fmap
use Rattle.qs_ranges.specs.Numbers.{MAX_VARINT}
use Rattle.qs_machine.specs.Ends.{End}
use Rattle.qs_machine.specs.Asking.{GoesBesideAck, IsNextOutstanding}
use Rattle.qs_machine.specs.News.{IsLeast, IsReadable}
use Rattle.qs_calls.specs.declared.event.Side.{Side}
use Rattle.qs_calls.specs.declared.event.Side.TheVariants.{A, B}
use Rattle.qs_calls.specs.declared.event.Act.{Act}
use Rattle.qs_calls.specs.declared.event.Act.TheVariants as acts
use Rattle.qs_calls.specs.declared.event.Event.{Event}
use Rattle.qs_calls.specs.declared.answer.Answer.{Answer}
use Rattle.qs_calls.specs.declared.answer.Answer.TheVariants as answers
use Rattle.qs_runs.specs.Logs.{History, same_side}
use Rattle.qs_runs.specs.Events.{Log, happened, EventStep}
use Rattle.qs_runs.specs.Worlds.{World, end_of}
use Rattle.qs_progress.specs.Comes.{IsComplete}
use Rattle.qs_world.specs.declared.report.PlayFault.{PlayFault}
use Rattle.qs_world.specs.declared.report.PlayFault.TheVariants as faults
use Rattle.qs_world.specs.declared.world.draining.Drained.{Drained}
use Rattle.qs_world.specs.declared.world.draining.Drained.TheVariants.{AtRest, UsedUp}
use Rattle.qs_world.specs.declared.world.draining.Turn.{Turn}
use Rattle.qs_world.specs.declared.world.draining.Turn.TheVariants as turns
use Rattle.qs_calls.specs.declared.settings.Settings.{Settings}
use Rattle.qs_world.specs.declared.report.Report.{Report}
use Rattle.qs_world.specs.Reports.{IsReport}
use Rattle.qs_world.specs.Plays.{Played, HasPlayed, PlayOf}
use Rattle.qs_world.specs.Comes.{makes_none, ComesToRest}

-- nothing but an ACK may go out of an end, no packet of its own is outstanding, and no stream has news for its reader: what `is_sendable`,
-- `next_outstanding` and `next_readable` tell (RFC 9000, sections 2.2 and 13.3)
abbrev pub IsIdle : End → Type 0
IsIdle e = (GoesBesideAck e → ⊥) × IsNextOutstanding e.outstanding 0 None × IsLeast (IsReadable e) 0 None

abbrev pub AreIdle : World → Type 0
AreIdle w = IsIdle w.a × IsIdle w.b

-- Turns

-- A round has six turns, A's first: an end declares lost what it has outstanding, and makes packets; at last each end reads.
abbrev pub next_turn : Turn → Turn
next_turn (turns.Lose s) = turns.Make s
next_turn (turns.Make A) = turns.Lose B
next_turn (turns.Make B) = turns.Read A
next_turn (turns.Read A) = turns.Read B
next_turn (turns.Read B) = turns.Lose A

-- the number of the packet that an answer tells of
abbrev pub number_made : Answer → Option ℕ
number_made (answers.Make (Ok (Some made)) text) = Some made.number
number_made answer = None

-- the number of the packet that the newest event of a log made, where it is that end's
abbrev pub just_made : Side → Log → Option ℕ
just_made s [] = None
just_made s (x ∷ log) = if same_side s x.0.end then number_made x.1 else None

-- the packet that was just made is delivered, or else one is made
abbrev pub act_of_making : Option ℕ → Act
act_of_making (Some k) = acts.Deliver k
act_of_making None = acts.Make 1200

-- An event of a turn: a packet that is outstanding is lost; one is made, and delivered at once; or a stream with news is read.
abbrev pub IsOf : Turn → Played → Event → Type 0
IsOf (turns.Lose s) p event = (k : ℕ) × (fmap.contains_key (end_of p.ends s).outstanding k ≡ true) × (event ≡ record { end = s; act = acts.Lose k })
IsOf (turns.Make s) p event = event ≡ record { end = s; act = act_of_making (just_made s p.log) }
IsOf (turns.Read s) p event = (n : ℕ) × IsReadable (end_of p.ends s) n × (event ≡ record { end = s; act = acts.ReadUpTo n 1024 })

-- A turn has no event (more): no packet of the end is outstanding, or no stream has news for it. A turn that makes packets has one at least.
abbrev pub IsOver : Turn → World → Type 0
IsOver (turns.Lose s) w = (k : ℕ) → k ≤ MAX_VARINT → fmap.contains_key (end_of w s).outstanding k ≡ false
IsOver (turns.Make s) w = ⊥
IsOver (turns.Read s) w = IsLeast (IsReadable (end_of w s)) 0 None

-- the turn after an event with this answer: one that makes packets is over once none is made
abbrev pub turn_after : Turn → Answer → Turn
turn_after turn answer = if makes_none answer then next_turn turn else turn

-- so many turns that are over are passed by
abbrev pub Passes : ℕ → World → Turn → Turn → Type 0
Passes zero w first turn = turn ≡ first
Passes (suc n) w first turn = (before : Turn) × Passes n w first before × IsOver before w × (turn ≡ next_turn before)

-- the turn's event happened in a world that isn't at rest, and is logged with its answer, which says whose turn it is then
abbrev pub PlainStep : Turn → Played → Turn → Played → Type 0
PlainStep turn old after new =
    (event : Event) × (answer : Answer) × (AreIdle old.ends → ⊥) × IsOf turn old event
    × (new.log ≡ (event, answer) ∷ old.log) × EventStep old.log old.ends event answer new.ends × (after ≡ turn_after turn answer)

-- so many plain events happened, turn by turn, from A's losses on; and whose turn it is then
abbrev pub PlainSteps : Played → ℕ → Turn → Played → Type 0
PlainSteps old zero turn new = (turn ≡ turns.Lose A) × (new ≡ old)
PlainSteps old (suc n) turn new =
    (before now : Turn) × (passed : ℕ) × (mid : Played) × PlainSteps old n before mid × Passes passed mid.ends before now × PlainStep now mid turn new

-- Both ends came to rest, and all is done; or as many events happened as were allowed, and they aren't at rest; or the log found no
-- memory.
abbrev pub DrainedBy : ℕ → ℕ → Result Drained PlayFault → Played → Type 0
DrainedBy n most (Ok AtRest) new = AreIdle new.ends × IsComplete (happened new.log) new.ends
DrainedBy n most (Ok UsedUp) new = (n ≡ most) × (AreIdle new.ends → ⊥)
DrainedBy n most (Err faults.NoMemory) new = ⊤
DrainedBy n most (Err fault) new = ⊥

-- at most so many plain events happened, and came to that
abbrev pub DrainStep : Played → ℕ → Result Drained PlayFault → Played → Type 0
DrainStep old most result new = (n : ℕ) × (turn : Turn) × (n ≤ most) × PlainSteps old n turn new × DrainedBy n most result new

-- some plain events happened, so many are left of those that are allowed, and it is this one's turn
abbrev pub HasDrained : Played → ℕ → Played → ℕ → Turn → Type 0
HasDrained old most new left turn =
    (n : ℕ) × (before : Turn) × (passed : ℕ) × (n + left ≡ most) × PlainSteps old n before new × Passes passed new.ends before turn

-- the newest event of a log was to make a packet, and made none
abbrev pub last_makes_none : Log → Bool
last_makes_none [] = false
last_makes_none (x ∷ log) = makes_none x.1

-- how many turns come before the next one that makes packets
abbrev pub turns_to_make : Turn → ℕ
turns_to_make (turns.Lose s) = 1
turns_to_make (turns.Make s) = 0
turns_to_make (turns.Read A) = 3
turns_to_make (turns.Read B) = 2

-- Plays

-- What comes of a drain and a report: the report of where the plain events led, and what they came to; or want of memory.
abbrev pub DrainedReport : Played → ℕ → Result (Report × Drained) PlayFault → Type 0
DrainedReport old most (Ok told) = (new : Played) × DrainStep old most (Ok told.1) new × ComesToRest old most (Ok told.1) new × IsReport new.log new.ends told.0
DrainedReport old most (Err faults.NoMemory) = ⊤
DrainedReport old most (Err fault) = ⊥

-- What comes of playing events and draining their world; a fault is one of `play`.
abbrev pub DrainedPlayOf : Settings → Settings → List Event → ℕ → Result (Report × Drained) PlayFault → Type 0
DrainedPlayOf a b events most (Ok told) = (old : Played) × HasPlayed a b events old × DrainedReport old most (Ok told)
DrainedPlayOf a b events most (Err fault) = PlayOf a b events (Err fault)
