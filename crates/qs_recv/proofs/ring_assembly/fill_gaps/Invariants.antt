use Rattle.std.proofs.Common.{◌≡◌, ◌≤◌, ◌<◌, ◌-◌, length}
use Rattle.qs_ranges.specs.Numbers.{MissesRange}
use Rattle.qs_recv.specs.Ring.{AreFilled, IsFilled, StayWritten, missing_count}
use Rattle.qs_recv.proofs.ring_assembly.fill_gaps.Given as goal

abbrev pub invariant-loop-at : goal.invariant-loop-at
invariant-loop-at l =
    record {
      begins : l.first ≤ l.at;
      ends : l.at ≤ l.end;
      some : l.at < l.end → l.at < l.to;
      within : l.to ≤ l.end;
      missing : MissesRange l.received l.at l.to;
      counted : l.count ≡ missing_count l.received l.first (l.at - l.first);
      small : l.count ≤ l.at - l.first;
      same_len : length l.ring.0 ≡ length l.initial.ring.0;
      kept : StayWritten l.initial.ring l.ring;
      there : AreFilled l.received l.first l.at l.ring;
      filled : IsFilled l.received l.first l.at l.offset l.bytes l.initial.ring.0 l.ring.0;
    }

abbrev pub decreases-loop-at : goal.decreases-loop-at
decreases-loop-at l = l.end - l.at
