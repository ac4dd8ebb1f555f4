-- Rounds in a row, of which none begins at rest: a number of windows bounds how many there are where nothing is set.
use Rattle.std.proofs.Common.{◌≡◌, ℕ, zero, suc, ◌+◌, ◌*◌, ◌≤◌, Bool, true, List, [], ◌∷◌, refl, arith}
use Rattle.std.specs.Prelude.{⊤}
use Rattle.qs_calls.specs.declared.event.Side.{Side}
use Rattle.qs_calls.specs.declared.event.Side.TheVariants.{A, B}
use Rattle.qs_calls.specs.declared.settings.Settings.{Settings}
use Rattle.qs_runs.specs.Worlds.{end_of}
use Rattle.qs_rest.specs.Resting.{HasRoom}
use Rattle.qs_progress.specs.Laps.{Moment}
use Rattle.qs_progress.specs.Comes.{BothRest, BothOpen, IsReached, Course}
use Rattle.qs_progress.specs.Rounds.{Packets, Round}
use Rattle.qs_progress.specs.Windows.{Widths, AreAsWide, WideRound, filled}
use Rattle.qs_progress.proofs.ComesInRounds.{Led}
use Rattle.qs_progress.proofs.Filled.{filled_within}
use Rattle.qs_progress.proofs.Onward.{Later, onward, sends_more, senders_more}
use Rattle.qs_progress.proofs.RestInRounds.{rest_comes_in_rounds}
use Rattle.qs_progress.proofs.Trails.{trail_open}
use Rattle.qs_progress.proofs.Unwritten.{IsUnwritten, Unwritten, then_on, round_on}
use Rattle.qs_progress.proofs.Wide.{trail_wide, rounds_leave_widths}
use Rattle.qs_progress.proofs.Sums.{steps_in, stretches_in}

-- so many led here, and what came before them wrote and set nothing
abbrev pub InARow : Moment → ℕ → Moment → Type 0
InARow origin zero m = Unwritten origin m
InARow origin (suc n) m = (old : Moment) × InARow origin n old × (BothRest old.ends → ⊥) × Round Packets old m

row_on : (origin : Moment) (n : ℕ) (m : Moment) → InARow origin n m → Unwritten origin m
row_on origin zero m on = on
row_on origin (suc n) m (old, row, busy, round) = then_on origin old m (row_on origin n old row) (round_on Packets old m round)

module _ (k : Side → Widths) (origin : Moment) (wide : (s : Side) → AreAsWide (k s) (end_of origin.ends s)) where
  abbrev Rests : Moment → Type 0
  Rests m = BothRest m.ends

  -- they are a course
  as_course : (n : ℕ) (m new : Moment) (parts : List Bool) → InARow origin n m → Course (WideRound Packets k) Rests parts m new
      → (first : Moment) × Unwritten origin first × (all : List Bool) × (steps_in all ≡ n + steps_in parts) × (stretches_in all ≡ stretches_in parts) × Course (WideRound Packets k) Rests all first new
  as_course zero m new parts on course = (m, on, parts, omega arith, refl, course)
  as_course (suc n) m new parts (old, row, busy, round) course =
      let (ms, trail) = row_on origin n old row in
      let (first, on, all, steps, none, whole) = as_course n old new (true ∷ parts) row (busy, m, rounds_leave_widths Packets k old m (trail_wide k ms origin old trail wide) round, course) in
      (first, on, all, omega (arith, steps), omega (arith, none), whole)

  pub few_rounds : (a b : Settings) (n : ℕ) (begins now : Moment) → IsReached a b origin → InARow origin n begins → Led begins now → BothOpen now.ends → ((s : Side) → HasRoom now.ends s) →
      n ≤ 2 * (filled (k B) origin.ends.a now.ends.a + filled (k A) origin.ends.b now.ends.b) + 5
  few_rounds a b n begins now r row (ns, led) unclosed room =
      let (first, (ms, trail), all, steps, none, course) = as_course n begins begins [] row refl in
      let to_first = onward a b IsUnwritten ms origin first r trail in
      let (ls, to) = row_on origin n begins row in
      let to_begins = onward a b IsUnwritten ls origin begins r to in
      let to_now = onward a b (λ call. ⊤) ns begins now to_begins.is_reached led in
      let few = rest_comes_in_rounds Packets a b k all first begins to_first.is_reached course (trail_open (λ call. ⊤) ns begins now led unclosed) (λ s. let grown = (sends_more (end_of begins.ends s) (end_of now.ends s) (to_now.goes s)).all in let low = room s in omega (arith, grown, low)) in
      let one = within a b first begins now to_first to_now A (k B) in
      let two = within a b first begins now to_first to_now B (k A) in
      omega (arith, few, steps, none, one, two)
    where
      within : (a b : Settings) (first begins now : Moment) → Later a b origin first → Later a b begins now → (s : Side) (w : Widths) → filled w (end_of first.ends s) (end_of begins.ends s) ≤ filled w (end_of origin.ends s) (end_of now.ends s)
      within a b first begins now to_first to_now s w =
          filled_within w (end_of origin.ends s) (end_of first.ends s) (end_of begins.ends s) (end_of now.ends s)
          (sends_more (end_of origin.ends s) (end_of first.ends s) (to_first.goes s))
          (sends_more (end_of begins.ends s) (end_of now.ends s) (to_now.goes s))
          (senders_more (end_of begins.ends s) (end_of now.ends s) (to_now.goes s))
