use Rattle.std.proofs.Common.{Result, drop, map}
use Rattle.qs_wire.specs.Layout.{view}
use Rattle.qs_calls.specs.declared.token.Taken.{Taken}
use Rattle.qs_calls.specs.declared.token.TakeFault.{TakeFault}
use Rattle.qs_machine.specs.Ends.{End}
use Rattle.qs_machine.specs.Alone.{after_one, TakesEach}
use Rattle.qs_conn.proofs.endpoint.Endpoint.take_each.Given as goal

-- What is so of the frames that are left is so of all.
abbrev pub invariant-loop-frame : goal.invariant-loop-frame
invariant-loop-frame l =
    (answer : Result Taken TakeFault) (new : End) → TakesEach (map view (drop l.frame-index l.frames)) l.self answer new
    → TakesEach (map view l.frames) l.initial.self (after_one l.taken answer) new
