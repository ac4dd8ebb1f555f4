-- What small ends' scores are, and what the bound counts.
use Rattle.std.proofs.lemmas.Bool.Decides.{nat_tests}
use Rattle.std.proofs.Common.{arith, refl}
use Rattle.qs_machine.specs.Tables.{lookup, total}
use Rattle.qs_runs.specs.Logs.{effects}
use Rattle.qs_progress.specs.Exclusions.{BoundCounts, Exclusions}

bound : BoundCounts
unfolding effects
bound = record { none = refl; written = refl; window = refl; stream = refl; grant = refl; narrower = refl; buffer = refl; refused = λ fault. refl }

pub exclusions : Exclusions
unfolding lookup total
exclusions =
    record {
      bound = bound;
      new = grind (arith, nat_tests);
      passed = grind (arith, nat_tests);
      acked = grind (arith, nat_tests);
      older = grind (arith, nat_tests);
      known = grind (arith, nat_tests);
      end = grind (arith, nat_tests);
      reset = grind (arith, nat_tests);
      size = grind (arith, nat_tests);
      told = grind (arith, nat_tests);
      written = grind (arith, nat_tests);
      falls = grind (arith, nat_tests);
    }
