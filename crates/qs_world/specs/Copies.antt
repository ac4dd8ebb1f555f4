-- Trusted.
-- Of copies: what is the same but for where its bytes lie in memory. The whole file is ours: RFC 9000 knows no scripts.
use Rattle.std.specs.Prelude.{◌≡◌, List, [], ◌∷◌, reverse, Result, ⊤}
use Rattle.qs_calls.specs.declared.settings.Settings.{Settings}
use Rattle.qs_calls.specs.declared.event.Act.{Act}
use Rattle.qs_calls.specs.declared.event.Act.TheVariants as acts
use Rattle.qs_calls.specs.declared.event.Event.{Event}
use Rattle.qs_calls.specs.declared.answer.Answer.{Answer}
use Rattle.qs_calls.specs.declared.answer.Answer.TheVariants as answers
use Rattle.qs_world.specs.declared.report.Report.{Report}
use Rattle.qs_world.specs.declared.report.PlayFault.{PlayFault}
use Rattle.qs_runs.specs.Events.{Log}
use Rattle.qs_world.specs.Plays.{Played, HasPlayed, PlayOf}
use Rattle.qs_world.specs.Reports.{all_lanes, end_totals}

-- two acts with the same numbers and bytes
abbrev pub SameAct : Act → Act → Type 0
SameAct (acts.Write n bytes) (acts.Write m more) = (n ≡ m) × (bytes.items ≡ more.items)
SameAct a b = a ≡ b

abbrev pub SameEvent : Event → Event → Type 0
SameEvent x y = (x.end ≡ y.end) × SameAct x.act y.act

-- the same events, one after the other
abbrev pub SameEvents : List Event → List Event → Type 0
SameEvents [] [] = ⊤
SameEvents (x ∷ xs) (y ∷ ys) = SameEvent x y × SameEvents xs ys
SameEvents xs ys = ⊥

-- two answers with the same numbers and bytes
abbrev pub SameAnswer : Answer → Answer → Type 0
SameAnswer (answers.ReadUpTo r bytes) (answers.ReadUpTo q more) = (r ≡ q) × (bytes.items ≡ more.items)
SameAnswer (answers.Make r bytes) (answers.Make q more) = (r ≡ q) × (bytes.items ≡ more.items)
SameAnswer a b = a ≡ b

-- the answer is the last one of the log
abbrev pub IsLastAnswer : Answer → Log → Type 0
IsLastAnswer answer [] = ⊥
IsLastAnswer answer (x ∷ log) = SameAnswer answer x.1

abbrev pub SameLog : List (Event × Answer) → List (Event × Answer) → Type 0
SameLog [] [] = ⊤
SameLog (x ∷ log) (y ∷ more) = SameEvent x.0 y.0 × SameAnswer x.1 y.1 × SameLog log more
SameLog log more = ⊥

-- a report of what was played, with a copy of the log
pub record IsReportOf (p : Played) (report : Report) : Type 0 where
  pub log : SameLog report.log.items (reverse p.log)
  pub lanes : report.lanes.items ≡ all_lanes p.ends
  pub ends : report.ends ≡ end_totals p.ends.a ∷ end_totals p.ends.b ∷ []

-- copies of these events were played in a world, whose settings they are that it began with
abbrev pub HasPlayedCopies : List Event → Played → Played → Type 0
HasPlayedCopies events old new = (copies : List Event) × SameEvents copies events × ((a b : Settings) → HasPlayed a b [] old → HasPlayed a b copies new)

-- what comes of playing copies of events
abbrev pub PlayOfCopies : Settings → Settings → List Event → Result Report PlayFault → Type 0
PlayOfCopies a b events result = (copies : List Event) × SameEvents copies events × PlayOf a b copies result
