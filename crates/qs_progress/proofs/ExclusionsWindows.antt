-- What widths are, what fills them, and where not all is read.
use Rattle.std.proofs.lemmas.Bool.Decides.{nat_tests}
use Rattle.std.proofs.Common.{◌≡◌, ℕ, List, [], ◌∷◌, refl, arith}
use Rattle.qs_calls.specs.declared.event.Side.TheVariants.{A}
use Rattle.qs_machine.specs.SmallEnds.{abc}
use Rattle.qs_machine.specs.Tables.{lookup, total}
use Rattle.qs_runs.specs.Examples.{wrote}
use Rattle.qs_runs.specs.Logs.{effects}
use Rattle.qs_progress.specs.Exclusions.{two}
use Rattle.qs_progress.specs.ExclusionsWindows.{WindowExclusions}
use Rattle.qs_progress.specs.Windows.{IsAllRead}

not_nothing : (x : ℕ) (xs : List ℕ) → ◌≡◌ {A = List ℕ} [] (x ∷ xs) → ⊥
not_nothing x xs is = absurd cc

not_read : IsAllRead (record { log = wrote A abc 3 ∷ []; ends = two }) → ⊥
unfolding effects
not_read all = not_nothing _ _ (all A 0 refl refl)

pub window_exclusions : WindowExclusions
unfolding lookup total
window_exclusions =
    record {
      half = omega arith;
      no_wider = λ is. omega (arith, is);
      sixteenth = omega arith;
      no_wider_still = λ is. omega (arith, is);
      least = λ share is. grind (arith, nat_tests);
      both = refl;
      connection = refl;
      stream = refl;
      before = refl;
      unread = not_read;
      begun = λ way k parts old new all course. course.0 all;
    }
