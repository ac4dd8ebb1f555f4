use Rattle.std.proofs.Common.{◌+◌, ◌-◌, ◌*◌, ◌<◌, ◌≤◌, max}
use Rattle.qs_recv.proofs.pages.Pages.gap_past.Given as goal

abbrev pub invariant-loop-number : goal.invariant-loop-number
invariant-loop-number l = record { past : l.at < l.number * 2048; small : l.number * 2048 ≤ max l.at l.end + 2048 }

abbrev pub decreases-loop-number : goal.decreases-loop-number
decreases-loop-number l = l.end - l.number * 2048
