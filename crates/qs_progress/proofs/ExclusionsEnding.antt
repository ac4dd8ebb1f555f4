-- Which calls send or tell something, and which don't.
use Rattle.std.proofs.lemmas.Bool.Decides.{nat_tests}
use Rattle.std.proofs.Common.{arith}
use Rattle.std.proofs.Common.{Bool, true, false, [], ◌∷◌, refl, sym, ◌∙◌, inr}
use Rattle.std.proofs.lemmas.Option.{none-some}
use Rattle.qs_calls.specs.declared.event.Side.TheVariants.{A}
use Rattle.qs_machine.specs.Tables.{lookup}
use Rattle.qs_progress.specs.Laps.{Moment}
use Rattle.qs_progress.specs.Ending.{Does}
use Rattle.qs_progress.specs.ExclusionsLaps.{ended_half, before, after}
use Rattle.qs_progress.specs.ExclusionsEnding.{EndingExclusions}
use Rattle.qs_progress.proofs.Steps.{noted_in}
use Rattle.qs_progress.proofs.Ending.{no_news}

tells_end : Does (true ∷ []) before (after ∷ [])
unfolding lookup
tells_end = ((A, inr (0, ended_half false, ended_half true, refl, refl, inr (refl, refl))), tt)

none_less : (mark : Bool) (m : Moment) → Does (mark ∷ []) m [] → ⊥
none_less mark m none = grind (arith, nat_tests)

pub ending_exclusions : EndingExclusions
ending_exclusions =
    record {
      tells = tells_end;
      puts = λ e p. (p, noted_in e p e refl);
      again = no_news;
      acks = λ e none (p, (ps, at, among)). none-some ps (sym none ∙ at);
      no_more = none_less;
      no_less = λ m k none. none;
    }
