use Rattle.std.proofs.Common.{◌≤◌, ◌+◌, ◌-◌, length}
use Rattle.qs_send.specs.AckPass.{Falls, HasPassed, turns_ahead, more_turns}
use Rattle.qs_send.proofs.ack_pass.AckPass.next.Given as goal

abbrev pub invariant-loop-number : goal.invariant-loop-number
invariant-loop-number l = record {
  passed : Falls l.fn.self → HasPassed l.records.pieces l.fn.self l.self;
  below : l.self.below ≤ l.fn.self.below;
  turns : l.self.turns + turns_ahead l.self l.records ≤ l.fn.self.turns + turns_ahead l.fn.self l.records;
  counted : l.fn.self.turns ≤ l.self.turns;
  each : more_turns l.fn.self.turns (length l.fn.self.unread - length l.self.unread) ≤ l.self.turns;
  reads : length l.self.unread ≤ length l.fn.self.unread;
}

abbrev pub decreases-loop-number : goal.decreases-loop-number
decreases-loop-number l = length l.self.unread
