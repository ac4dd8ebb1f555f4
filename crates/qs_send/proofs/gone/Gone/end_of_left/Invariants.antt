use Rattle.std.proofs.Common.{◌≤◌, ◌<◌, ◌+◌, max}
use Rattle.qs_send.specs.AckPass.{more_turns}
use Rattle.qs_send.proofs.Outstanding.{IsGoneFrom}
use Rattle.qs_send.proofs.gone.Gone.end_of_left.Given as goal

abbrev pub invariant-loop-left : goal.invariant-loop-left
invariant-loop-left l = record {
  gone : IsGoneFrom l.self l.left l.end;
  looks : l.looks + max l.low l.left ≤ l.fn.looks + max l.low l.end;
  one : l.left < l.end → more_turns l.fn.looks 1 ≤ l.looks;
  counted : l.fn.looks ≤ l.looks;
}

abbrev pub decreases-loop-left : goal.decreases-loop-left
decreases-loop-left l = l.left
