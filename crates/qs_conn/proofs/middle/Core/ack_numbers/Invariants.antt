use Rattle.std.proofs.Common.{Result}
use Rattle.qs_ranges.specs.declared.NoMemory.{NoMemory}
use Rattle.qs_machine.specs.Outgoing.{Outgoing}
use Rattle.qs_conn.specs.Middle.{IsAtRest, KeepsStreams}
use Rattle.qs_conn.specs.Runs.{AcksAhead, from_below}
use Rattle.qs_conn.proofs.middle.Core.ack_numbers.Given as goal

-- What is so of the numbers that are left is so of all.
abbrev pub invariant-loop-number : goal.invariant-loop-number
invariant-loop-number l =
    record {
      rest : IsAtRest l.self;
      streams : KeepsStreams l.initial.self l.self;
      onward : (result : Result (Unit {0}) NoMemory) (new : Outgoing) → AcksAhead l.late (from_below l.first l.number) l.self.outbox result new → AcksAhead l.late (from_below l.first l.end) l.initial.self.outbox result new;
    }

abbrev pub decreases-loop-number : goal.decreases-loop-number
decreases-loop-number l = l.number
