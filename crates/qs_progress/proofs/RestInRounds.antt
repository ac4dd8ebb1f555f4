-- Rest comes by rounds: where a round doesn't begin at rest, the third of the five before it filled more than the first.
use Rattle.std.proofs.Common.{ℕ, zero, suc, ◌+◌, ◌≤◌, arith, inl, inr}
use Rattle.std.proofs.lemmas.Bool.{cases_lt}
use Rattle.qs_calls.specs.declared.event.Side.{Side}
use Rattle.qs_calls.specs.declared.settings.Settings.{Settings}
use Rattle.qs_rest.specs.Resting.{HasRoom}
use Rattle.qs_progress.specs.Laps.{Moment}
use Rattle.qs_progress.specs.Comes.{BothRest, BothOpen}
use Rattle.qs_progress.specs.Rounds.{Way}
use Rattle.qs_progress.specs.Windows.{Widths, WideRound, RestComesInRounds, AllComesInRounds}
use Rattle.qs_progress.proofs.Comes.{rest_misses}
use Rattle.qs_progress.proofs.ComesInRounds.{round_leads}
use Rattle.qs_progress.proofs.Onward.{Later, later_same, later_twice}
use Rattle.qs_progress.proofs.ReadInRounds.{Row, row_rest, level, level_of, later_round, open_before, a_none, b_none, courses}
use Rattle.qs_progress.proofs.Tail.{both_rest}

module _ (w : Way) (a b : Settings) (k : Side → Widths) (begun last : Moment) (room : (s : Side) → HasRoom last.ends s) where
  rest_fills : (n : ℕ) → 5 ≤ n → n ≤ 5 → (old new : Moment) (row : Row a b w k begun last room n old) (y : WideRound w k old new) → Later a b old last → BothOpen old.ends → (BothRest old.ends → ⊥) →
      level a b w k begun last room n old row + 1 ≤ level a b w k begun last room n new (row_rest a b w k begun last room n new (old, row, y))
  rest_fills (suc (suc (suc (suc (suc zero))))) ge le old new (m4, (m3, (m2, (m1, (m0, start, x1), x2), x3), x4), x5) y until unclosed begins =
      elim (cases_lt (level_of a b w k begun last room m0 m1 x1) (level_of a b w k begun last room m2 m3 x3)) [
        | inl lt ↦ omega (arith, lt)
        | inr even ↦ (
            let open_4 = open_before a b w k begun last room m4 old x5 unclosed in
            let open_3 = open_before a b w k begun last room m3 m4 x4 open_4 in
            let to_1 = later_round a b w k begun last room m0 m1 start.0 x1 in
            let to_2 = later_round a b w k begun last room m1 m2 to_1.is_reached x2 in
            let to_3 = later_round a b w k begun last room m2 m3 to_2.is_reached x3 in
            let to_4 = later_round a b w k begun last room m3 m4 to_3.is_reached x4 in
            let to_old = later_round a b w k begun last room m4 old to_4.is_reached x5 in
            let on = later_twice a b m3 m4 last to_4 (later_twice a b m4 old last to_old until) in
            absurd (begins (both_rest a b w m1 m2 m3 m4 old to_1.is_reached x2.0 x3.0 x4.0 x5.0 open_3
            (a_none a b w k begun last room m0 m1 m2 m3 start.0 x1 x2 x3 start.1 on open_3 even)
            (b_none a b w k begun last room m0 m1 m2 m3 start.0 x1 x2 x3 start.1 on open_3 even))))
      ]
  rest_fills (suc (suc (suc (suc (suc (suc n)))))) ge le old new row y until unclosed begins = absurd (omega (arith, le))
  rest_fills n ge le old new row y until unclosed begins = absurd (omega (arith, ge))

pub rest_comes_in_rounds : RestComesInRounds
rest_comes_in_rounds w a b k parts old new r course unclosed room =
    let counted = courses a b w k old new room (λ m. BothRest m.ends) 5 (rest_fills w a b k old new room) parts old 0 (omega arith) (r, later_same a b old r) course unclosed in
    omega (arith, counted)

pub all_comes_in_rounds : AllComesInRounds
all_comes_in_rounds w a b k parts old new r course unclosed room =
    rest_comes_in_rounds w a b k parts old new r (rest_misses a b (WideRound w k) (λ m n x. round_leads w m n x.0) parts old new r course) unclosed room
