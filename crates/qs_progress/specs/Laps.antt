-- Trusted.
-- Laps: what the layer beneath and the owners do where nothing is lost and nothing new is asked for. The whole file is ours: RFC 9000 has no
-- measure of a connection.
use Rattle.std.specs.Prelude.{◌≡◌, ℕ, ◌<◌, false, List, [], ◌∷◌, None, ⊤}
use Rattle.std.specs.FinMap as fmap
use Rattle.qs_send.specs.Records.{Among}
use Rattle.qs_calls.specs.declared.event.Side.{Side}
use Rattle.qs_machine.specs.News.{IsLeast, IsReadable}
use Rattle.qs_machine.specs.EndStep.{Call, Open, Write, Finish, Reset, Stop, StopAndDiscard, TokenLost, Lose, RaiseLimits, Set, NoteClosed}
use Rattle.qs_runs.specs.Logs.{Happening, History}
use Rattle.qs_runs.specs.Worlds.{World, end_of, WorldStep}
use Rattle.qs_rest.specs.Rest.{HasMore}

-- two ends, and what happened to them, the newest first
pub record Moment : Type 0 where
  pub log : History
  pub ends : World

-- nothing is lost, asked for, set or closed: packets are made, and come, in any order and again, and are acknowledged, and readers read
abbrev pub IsCalm : Call → Type 0
IsCalm (Open d) = ⊥
IsCalm (Write n bytes) = ⊥
IsCalm (Finish n) = ⊥
IsCalm (Reset n code) = ⊥
IsCalm (Stop n code) = ⊥
IsCalm (StopAndDiscard n code) = ⊥
IsCalm (TokenLost t) = ⊥
IsCalm (Lose k) = ⊥
IsCalm (RaiseLimits p) = ⊥
IsCalm (Set x) = ⊥
IsCalm (NoteClosed close) = ⊥
IsCalm call = ⊤

-- these moments follow each other, up to the last one, by happenings of that kind
abbrev pub Trail : (Call → Type 0) → Moment → List Moment → Moment → Type 0
Trail Is old [] new = new ≡ old
Trail Is old (m ∷ ms) new = ((x : Happening) × Is x.call × (m.log ≡ x ∷ old.log) × WorldStep old.log old.ends x m.ends) × Trail Is m ms new

-- at one of these moments it holds
abbrev pub Sometime : (World → Type 0) → List Moment → Type 0
Sometime P ms = (m : Moment) × Among m ms × P m.ends

-- A lap: nothing is lost in it. All that was outstanding as it began is acknowledged by its end; at some moment each end has nothing more to
-- send, and at some moment each reader nothing more to read.
pub record Lap (old new : Moment) : Type 0 where
  pub moments : List Moment
  pub calm : Trail IsCalm old moments new
  pub none_out : (s : Side) (k : ℕ) → k < (end_of old.ends s).next → fmap.contains_key (end_of new.ends s).outstanding k ≡ false
  pub none_to_send : (s : Side) → Sometime (λ w. HasMore (end_of w s) → ⊥) moments
  pub none_to_read : (s : Side) → Sometime (λ w. IsLeast (IsReadable (end_of w s)) 0 None) moments
