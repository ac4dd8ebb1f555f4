use Rattle.std.proofs.Common.{◌≡◌, Result, false}
use Rattle.qs_ranges.specs.declared.NoMemory.{NoMemory}
use Rattle.qs_machine.specs.Outgoing.{Outgoing}
use Rattle.qs_conn.specs.Middle.{IsAtRest, KeepsStreams}
use Rattle.qs_conn.specs.NewlyTold.{TellsAhead}
use Rattle.qs_conn.specs.Runs.{AcksAhead}
use Rattle.qs_conn.proofs.AckRuns.{IsLess}
use Rattle.qs_conn.proofs.middle.Core.ack_ahead.Given as goal

-- What is so of what the pass has ahead is so of all.
abbrev pub invariant-loop-number : goal.invariant-loop-number
invariant-loop-number g l =
    record {
      rest : IsAtRest l.self;
      streams : KeepsStreams l.initial.self l.self;
      onward : (result : Result (Unit {0}) NoMemory) (new : Outgoing) → AcksAhead l.late l.pass l.self.outbox result new → AcksAhead l.late l.initial.pass l.initial.self.outbox result new;
      told : (new : Outgoing) (t : _) → l.late ≡ false → IsLess l.self.outbox new → TellsAhead g.T.Told.tells l.pass l.self.outbox new l.told t → TellsAhead g.T.Told.tells l.initial.pass l.initial.self.outbox new l.initial.told t;
    }

abbrev pub decreases-loop-number : goal.decreases-loop-number
decreases-loop-number g l = l.pass.below
