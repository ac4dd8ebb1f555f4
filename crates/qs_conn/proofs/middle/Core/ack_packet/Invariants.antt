use Rattle.std.proofs.Common.{Result}
use Rattle.qs_ranges.specs.declared.NoMemory.{NoMemory}
use Rattle.qs_machine.specs.Outgoing.{Outgoing}
use Rattle.qs_conn.specs.Middle.{IsAtRest, KeepsStreams}
use Rattle.qs_conn.specs.Runs.{AcksPacket, pieces_left}
use Rattle.qs_conn.proofs.middle.Core.ack_packet.Given as goal

-- What is so from here on is so of the whole packet.
abbrev pub invariant-loop-piece : goal.invariant-loop-piece
invariant-loop-piece l =
    record {
      rest : IsAtRest l.self;
      streams : KeepsStreams l.initial.self l.self;
      onward : (result : Result (Unit {0}) NoMemory) (new : Outgoing) → AcksPacket l.packet.late l.packet.number l.self.outbox result new → AcksPacket l.packet.late l.packet.number l.initial.self.outbox result new;
    }

abbrev pub decreases-loop-piece : goal.decreases-loop-piece
decreases-loop-piece l = pieces_left l.packet.late l.packet.number l.self.outbox
