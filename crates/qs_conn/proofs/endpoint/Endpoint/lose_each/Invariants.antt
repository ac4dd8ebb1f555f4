use Rattle.std.proofs.Common.{◌-◌, Result}
use Rattle.qs_calls.specs.declared.token.TokenFault.{TokenFault}
use Rattle.qs_machine.specs.Ends.{End}
use Rattle.qs_machine.specs.Alone.{LosesEach}
use Rattle.qs_conn.proofs.endpoint.Endpoint.lose_each.Given as goal

-- What is so of the numbers that are left is so of all.
abbrev pub invariant-loop-number : goal.invariant-loop-number
invariant-loop-number l =
    (answer : Result (Unit {0}) TokenFault) (new : End) → LosesEach (l.number - l.first) l.first l.self answer new → LosesEach (l.end - l.first) l.first l.initial.self answer new

abbrev pub decreases-loop-number : goal.decreases-loop-number
decreases-loop-number l = l.number
