-- Of public contracts.
-- A wire in memory, as contracts see it.
use Rattle.std.specs.Prelude.{ℕ, List, [], ◌∷◌, ◌++◌, refl}
use Rattle.std.specs.Coded.{Coded, code_by, coded×, coded_list, coded_ℕ}
use Rattle.qs_calls.specs.declared.event.Side.{Side}
use Rattle.qs_calls.specs.declared.event.Side.TheVariants.{A, B}
use Rattle.qs_cli.specs.Carrying.{Failings, failings_code, none_failed}

-- what failed, and the datagrams that wait at each end, in the order in which they came
pub record Waiting : Type 0 where
  pub failures : Failings
  pub at_a : List (List ℕ)
  pub at_b : List (List ℕ)

-- it is stored as the pair of its fields
abbrev pub waiting_code : Coded Waiting
waiting_code =
    code_by (Failings × (List (List ℕ) × List (List ℕ))) (coded× failings_code (coded× (coded_list (coded_list coded_ℕ)) (coded_list (coded_list coded_ℕ)))) (λ w. (w.failures, (w.at_a, w.at_b)))
    (λ p. record { failures = p.0; at_a = p.1.0; at_b = p.1.1 })
    (λ _. refl)

-- nothing failed, and nothing waits
abbrev pub nothing_waits : Waiting
nothing_waits = record { failures = none_failed; at_a = []; at_b = [] }

-- a datagram waits at an end, behind those that wait there
abbrev pub waiting_with : Side → List ℕ → Waiting → Waiting
waiting_with A datagram w = record w { at_a = w.at_a ++ datagram ∷ [] }
waiting_with B datagram w = record w { at_b = w.at_b ++ datagram ∷ [] }
