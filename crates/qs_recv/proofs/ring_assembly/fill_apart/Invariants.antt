use Rattle.std.proofs.Common.{◌≡◌, ℕ, ◌≤◌, ◌<◌, ◌-◌}
use Rattle.qs_ranges.specs.Numbers.{MissesRange}
use Rattle.qs_recv.specs.Pages.{AreWhole, IsFilledApart, is_used}
use Rattle.qs_recv.specs.Ring.{missing_count}
use Rattle.qs_recv.proofs.ring_assembly.fill_apart.Given as goal

abbrev pub invariant-loop-at : goal.invariant-loop-at
invariant-loop-at l =
    record {
      begins : l.first ≤ l.at;
      ends : l.at ≤ l.end;
      some : l.at < l.end → l.at < l.to;
      within : l.to ≤ l.end;
      missing : MissesRange l.received l.at l.to;
      counted : l.count ≡ missing_count l.received l.first (l.at - l.first);
      small : l.count ≤ l.at - l.first;
      whole : AreWhole l.apart.pages;
      stay : (n : ℕ) → is_used l.apart.pages n ≡ is_used l.initial.apart.pages n;
      filled : IsFilledApart l.received l.first l.at l.offset l.bytes l.initial.apart.pages l.apart.pages;
    }

abbrev pub decreases-loop-at : goal.decreases-loop-at
decreases-loop-at l = l.end - l.at
