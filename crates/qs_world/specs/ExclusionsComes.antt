-- Of laws.
-- What the bound of a plain loop excludes, and why refused calls are left out of it. The whole file is ours.
use Rattle.std.specs.Prelude.{◌≡◌, ℕ, ◌≤◌, false, true, ◌&&◌, if◌then◌else◌, [], take, None, Some, Ok, Err}
use Rattle.std.specs.List.{list_any, sum_by}
use Rattle.std.specs.FinMap as fmap
use Rattle.std.specs.Global.{Vec}
use Rattle.qs_calls.specs.declared.answer.Answer.TheVariants as answers
use Rattle.qs_calls.specs.declared.closing.Received.TheVariants as received
use Rattle.qs_calls.specs.declared.event.Side.{Side}
use Rattle.qs_calls.specs.declared.event.Side.TheVariants.{A, B}
use Rattle.qs_calls.specs.declared.making.Made.{Made}
use Rattle.qs_machine.specs.SmallEnds.{raised}
use Rattle.qs_runs.specs.Events.{happened}
use Rattle.qs_runs.specs.Logs.{same_side}
use Rattle.qs_runs.specs.Worlds.{end_of}
use Rattle.qs_rest.specs.Resting.{HasRoom}
use Rattle.qs_progress.specs.Bound.{most}
use Rattle.qs_progress.specs.Windows.{AreAsWide, Widths, filled}
use Rattle.qs_world.specs.declared.world.draining.Drained.TheVariants.{UsedUp}
use Rattle.qs_world.specs.Plays.{Played}
use Rattle.qs_world.specs.Comes.{is_refused, makes_none, ComesToRest}
use Rattle.qs_world.specs.Draining.{DrainStep}

-- two ends, each of which has a limit to tell
abbrev pub have_more : Played
have_more = record { log = []; ends = record { a = raised; b = raised } }

pub record ComesExclusions : Type 0 where
  -- where nothing was outstanding, and six things can be done for good, sixty-two events of which none is refused are too many
  pub too_many : (old new : Played) → fmap.len old.ends.a.outstanding ≡ 0 → fmap.len old.ends.b.outstanding ≡ 0 → most (happened new.log) new.ends ≡ 6 → list_any (λ x. is_refused x.1) (take 62 new.log) ≡ false → ComesToRest old 62 (Ok UsedUp) new → ⊥
  -- and where no width was filled, A's turn ended six times at most
  pub few_rounds : (old new : Played) (allowed : ℕ) (k : Side → Widths) → ((s : Side) → AreAsWide (k s) (end_of old.ends s)) → ((s : Side) → HasRoom new.ends s) → filled (k B) old.ends.a new.ends.a ≡ 0
      → filled (k A) old.ends.b new.ends.b ≡ 0 → list_any (λ x. is_refused x.1) (take allowed new.log) ≡ false → ComesToRest old allowed (Ok UsedUp) new → sum_by (λ x. if same_side A x.0.end && makes_none x.1 then 1 else 0) (take allowed new.log) ≤ 6
  -- a turn ends as no packet is made, and not as one is, or one comes
  pub none_made : (text : Vec ℕ) → makes_none (answers.Make (Ok None) text) ≡ true
  pub one_made : (made : Made) (text : Vec ℕ) → makes_none (answers.Make (Ok (Some made)) text) ≡ false
  pub one_comes : makes_none (answers.Deliver (Ok received.Done)) ≡ false
  -- a packet that isn't taken in whole counts as refused
  pub in_part : is_refused (answers.Deliver (Ok received.NoMemory)) ≡ true
  pub again : is_refused (answers.Deliver (Ok received.Duplicate)) ≡ true
  pub in_whole : is_refused (answers.Deliver (Ok received.Done)) ≡ false
  -- the premise is needed: where each packet is refused memory, and no text comes of it, a loop may use up as many events as are allowed
  pub refused : (text : Vec ℕ) → text.items ≡ [] → (n : ℕ) → (new : Played) × DrainStep have_more n (Ok UsedUp) new
