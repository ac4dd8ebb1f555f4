-- Of laws.
-- Laws on two ends: the invariant, its clauses, and what agrees.
use Rattle.std.specs.Prelude.{ℕ, [], ◌∷◌}
use Rattle.qs_calls.specs.declared.settings.Settings.{Settings}
use Rattle.qs_calls.specs.declared.event.Side.{Side}
use Rattle.qs_runs.specs.Logs.{Happening, History}
use Rattle.qs_runs.specs.Worlds.{World, Begins, WorldStep, Run}
use Rattle.qs_runs.specs.Events.{Log, happened, EventRun}
use Rattle.qs_runs.specs.Agree.{PrefixAgrees, CreditAgrees, WholeAgrees, FinalSizesAgree, StaysOpen, StepAgrees}
use Rattle.qs_runs.specs.Invariant.{WorldOk}
use Rattle.qs_runs.specs.Clauses.{PiecesAreWritten, ReceivedIsBelowSent, StoredIsWritten, ReadIsWritten, ArrivedWasTaken, ArrivedResetWasTaken, AckedHasArrived, FinalSizeIsDeclared, AllKeepWhatTheyKnow, ResetCodeIsTheSenders, SentIsWithinKnown, KnownIsWithinGranted, IsOpenAtInitiator, OpenedIsBelowKnown}

-- whatever happens in a world that meets the invariant, the world after it has the clause
abbrev pub AfterStep : (History → World → Type 0) → Type 0
AfterStep Clause =
    (a b : Settings) (h : History) (v w : World) (x : Happening) →
    WorldOk a b h v → WorldStep h v x w → Clause (x ∷ h) w

-- a world that meets the invariant has it
abbrev pub InEachWorld : (History → World → Type 0) → Type 0
InEachWorld Clause = (a b : Settings) (h : History) (w : World) → WorldOk a b h w → Clause h w

-- two new ends meet the invariant
abbrev pub NewEndsMeetInvariant : Type 0
NewEndsMeetInvariant = (a b : Settings) (w : World) → Begins a b w → WorldOk a b [] w

-- and each step keeps it
abbrev pub StepsKeepInvariant : Type 0
StepsKeepInvariant =
    (a b : Settings) (h : History) (v w : World) (x : Happening) →
    WorldOk a b h v → WorldStep h v x w → WorldOk a b (x ∷ h) w

-- every run of events alone is a run
abbrev pub EventRunsAreRuns : Type 0
EventRunsAreRuns = (a b : Settings) (log : Log) (w : World) → EventRun a b log w → Run a b (happened log) w

-- The ten clauses

abbrev pub PiecesAreAlwaysWritten : Type 0
PiecesAreAlwaysWritten = AfterStep (λ h w. (s : Side) (n : ℕ) → PiecesAreWritten h w s n)

abbrev pub ReceivedIsAlwaysBelowSent : Type 0
ReceivedIsAlwaysBelowSent = AfterStep (λ h w. (s : Side) (n : ℕ) → ReceivedIsBelowSent w s n)

abbrev pub StoredIsAlwaysWritten : Type 0
StoredIsAlwaysWritten = AfterStep (λ h w. (s : Side) (n : ℕ) → StoredIsWritten h w s n)

abbrev pub ReadIsAlwaysWritten : Type 0
ReadIsAlwaysWritten = AfterStep (λ h w. (s : Side) (n : ℕ) → ReadIsWritten h s n)

abbrev pub ArrivedWasAlwaysTaken : Type 0
ArrivedWasAlwaysTaken = AfterStep (λ h w. (s : Side) (n : ℕ) → ArrivedWasTaken h w s n × ArrivedResetWasTaken h w s n)

abbrev pub AckedHasAlwaysArrived : Type 0
AckedHasAlwaysArrived = AfterStep (λ h w. (s : Side) (n : ℕ) → AckedHasArrived h w s n)

abbrev pub FinalSizeIsAlwaysDeclared : Type 0
FinalSizeIsAlwaysDeclared = AfterStep (λ h w. (s : Side) (n : ℕ) → FinalSizeIsDeclared h w s n)

abbrev pub WhatIsKnownStays : Type 0
WhatIsKnownStays =
    (a b : Settings) (h : History) (v w : World) (x : Happening) →
    WorldOk a b h v → WorldStep h v x w → (s : Side) (n : ℕ) → AllKeepWhatTheyKnow v w s n

abbrev pub ResetCodeIsAlwaysTheSenders : Type 0
ResetCodeIsAlwaysTheSenders = AfterStep (λ h w. (s : Side) (n : ℕ) → ResetCodeIsTheSenders w s n)

abbrev pub SentIsAlwaysWithinKnown : Type 0
SentIsAlwaysWithinKnown = AfterStep (λ h w. (s : Side) → SentIsWithinKnown w s)

abbrev pub KnownIsAlwaysWithinGranted : Type 0
KnownIsAlwaysWithinGranted = AfterStep (λ h w. (s : Side) → KnownIsWithinGranted w s)

abbrev pub StreamsAreOpenAtInitiator : Type 0
StreamsAreOpenAtInitiator = AfterStep (λ h w. (s : Side) (n : ℕ) → IsOpenAtInitiator w s n)

abbrev pub OpenedIsAlwaysBelowKnown : Type 0
OpenedIsAlwaysBelowKnown = AfterStep (λ h w. (s : Side) → OpenedIsBelowKnown w s)

-- What agrees

abbrev pub ReadIsAPrefix : Type 0
ReadIsAPrefix = InEachWorld (λ h w. (s : Side) (n : ℕ) → PrefixAgrees h s n)

abbrev pub SpentIsBelowSent : Type 0
SpentIsBelowSent = InEachWorld (λ h w. (s : Side) → CreditAgrees w s)

abbrev pub RepeatsSpendNothing : Type 0
RepeatsSpendNothing =
    (a b : Settings) (h : History) (v w : World) (x : Happening) → WorldOk a b h v → WorldStep h v x w → StepAgrees h v x w

abbrev pub ReceivedIsWhole : Type 0
ReceivedIsWhole = InEachWorld (λ h w. (s : Side) (n : ℕ) → WholeAgrees h w s n)

abbrev pub FinalSizesAlwaysAgree : Type 0
FinalSizesAlwaysAgree = InEachWorld (λ h w. (s : Side) (n : ℕ) → FinalSizesAgree w s n)

-- no end closes unless it was told to, or sees the close of a peer that was
abbrev pub NoEndCloses : Type 0
NoEndCloses = InEachWorld (λ h w. (s : Side) → StaysOpen h w s)
