use Rattle.std.proofs.Common.{◌≤◌, ◌+◌, ◌-◌, length}
use Rattle.qs_send.specs.AckPass.{Falls, HasPassed, more_turns}
use Rattle.qs_send.specs.LostPass.{lost_ahead, IsSeen, seen_below}
use Rattle.qs_send.proofs.ack_pass.AckPass.next_lost.Given as goal

abbrev pub invariant-loop-number : goal.invariant-loop-number
invariant-loop-number l = record {
  passed : Falls l.fn.self → HasPassed l.records.pieces l.fn.self l.self;
  below : l.self.below ≤ l.fn.self.below;
  turns : l.self.turns + lost_ahead l.self l.records ≤ (l.fn.self.turns + lost_ahead l.fn.self l.records) + seen_below l.seen l.self.below;
  counted : l.fn.self.turns ≤ l.self.turns;
  seen : IsSeen l.records.pieces l.self.below l.seen;
  looks : l.seen ≤ l.fn.self.below;
  each : more_turns l.fn.self.turns ((length l.fn.self.unread - length l.self.unread) + seen_below l.seen l.fn.self.below) ≤ l.self.turns;
}

abbrev pub decreases-loop-number : goal.decreases-loop-number
decreases-loop-number l = length l.self.unread
