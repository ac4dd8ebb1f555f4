-- Copies of events are played, one after the other.
use Rattle.std.proofs.Common.{◌≡◌, ℕ, zero, suc, ◌+◌, ◌<◌, List, [], ◌∷◌, ◌++◌, length, take, drop, get_or, Result, Err, Ok, refl, sym, ap, ◌∙◌, subst, arith}
use Rattle.std.specs.Prelude.{⊤}
use Rattle.std.proofs.lemmas.List.{take_more}
use Rattle.qs_calls.specs.declared.settings.Settings.{Settings}
use Rattle.qs_calls.specs.declared.settings.SetupFault.{SetupFault}
use Rattle.qs_calls.specs.declared.event.Act.{Act}
use Rattle.qs_calls.specs.declared.event.Act.TheVariants as acts
use Rattle.qs_calls.specs.declared.event.Event.{Event}
use Rattle.qs_world.specs.declared.report.PlayFault.{PlayFault}
use Rattle.qs_world.specs.declared.report.PlayFault.TheVariants.{NoMemory, Setup}
use Rattle.qs_world.specs.Copies.{SameAct, SameEvent, SameEvents, HasPlayedCopies, PlayOfCopies}
use Rattle.qs_world.specs.Plays.{Played, HasPlayed, PlayStep, begun}
use Rattle.qs_runs.specs.Events.{world_made}
use Rattle.qs_runs.specs.Worlds.{World}
use Rattle.qs_world.proofs.PlayedRuns.{played_more, play_stops}

-- Copies

same_act : (act : Act) → SameAct act act
same_act (acts.Write n bytes) = (refl, refl)
same_act act = refl

same_selves : (events : List Event) → SameEvents events events
same_selves [] = tt
same_selves (x ∷ xs) = ((refl, same_act x.act), same_selves xs)

same_append : (xs ys zs ws : List Event) → SameEvents xs ys → SameEvents zs ws → SameEvents (xs ++ zs) (ys ++ ws)
same_append [] [] zs ws same more = more
same_append (x ∷ xs) (y ∷ ys) zs ws same more = (same.0, same_append xs ys zs ws same.1 more)
same_append [] (y ∷ ys) zs ws same more = absurd same
same_append (x ∷ xs) [] zs ws same more = absurd same

-- Playing

pub split_at : {X : Type 0} (xs : List X) (i : ℕ) (d : X) → i < length xs → xs ≡ take i xs ++ get_or xs i d ∷ drop (suc i) xs
split_at [] i d lt = absurd (omega arith)
split_at (x ∷ xs) zero d lt = refl
split_at (x ∷ xs) (suc i) d lt = ap (λ l. x ∷ l) (split_at xs i d (omega arith))

pub copies_more : (events : List Event) (i : ℕ) (event copy : Event) (first old new : Played)
    → i < length events → event ≡ get_or events i event → SameEvent copy event
    → HasPlayedCopies (take i events) first old → PlayStep {X = ⊤} old copy (Ok tt) new → HasPlayedCopies (take (i + 1) events) first new
copies_more events i event copy first old new lt is same (copies, before, played) step = (
  copies ++ copy ∷ [],
  subst (SameEvents (copies ++ copy ∷ [])) (ap (λ x. take i events ++ x ∷ []) is ∙ sym (take_more events i event lt)) (same_append copies (take i events) (copy ∷ []) (event ∷ []) before (same, tt)),
  λ a b begun. played_more a b copies copy old new (played a b begun) step,
)

pub copies_stop : (events : List Event) (i : ℕ) (event copy : Event) (fault : PlayFault) (first old new : Played)
    → i < length events → event ≡ get_or events i event → SameEvent copy event
    → HasPlayedCopies (take i events) first old → PlayStep {X = ⊤} old copy (Err fault) new → (a b : Settings) → HasPlayed a b [] first → PlayOfCopies a b events (Err fault)
copies_stop events i event copy fault first old new lt is same (copies, before, played) step a b begun =
    let left = drop (suc i) events in
    let all : take i events ++ event ∷ left ≡ events = ap (λ x. take i events ++ x ∷ left) is ∙ sym (split_at events i event lt) in (
      copies ++ copy ∷ left,
      subst (SameEvents (copies ++ copy ∷ left)) all (same_append copies (take i events) (copy ∷ left) (event ∷ left) before (same, same_selves left)),
      play_stops a b (copies ++ copy ∷ left) copies left copy fault old new refl (played a b begun) step,
    )

-- where a copy finds no memory
pub copies_refused : (events : List Event) (a b : Settings) → PlayOfCopies a b events (Err NoMemory)
copies_refused events a b = (events, same_selves events, tt)

not_made : (made : Result World SetupFault) (fault : SetupFault) → Err fault ≡ begun made → made ≡ Err fault
not_made (Err other) fault is = (let same : fault ≡ other = cc is in rw same refl)
not_made (Ok w) fault is = absurd (cc is)

-- where no ends are made
pub copies_unmade : (events : List Event) (a b : Settings) (fault : SetupFault) → Err fault ≡ begun (world_made a b) → PlayOfCopies a b events (Err (Setup fault))
copies_unmade events a b fault is = (events, same_selves events, not_made (world_made a b) fault is)
