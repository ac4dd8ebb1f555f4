use Rattle.std.proofs.Common.{◌≡◌, ℕ, ◌+◌, ◌-◌, ◌*◌, ◌≤◌, ◌&&◌, if◌then◌else◌, nat_le, nat_lt, max, None}
use Rattle.std.specs.Ordering.{nat_cmp}
use Rattle.std.specs.BTreeMap as tree
use Rattle.qs_recv.proofs.pages.Pages.give_back.Given as goal

abbrev pub invariant-loop-number : goal.invariant-loop-number
invariant-loop-number l =
    record {
      small : l.number * 2048 ≤ max l.from (l.to + 2048);
      gone : (n : ℕ) → tree.get nat_cmp l.self.pages n ≡ (if nat_le l.from (n * 2048) && (nat_lt n l.number && nat_lt (n * 2048) l.to) then None else tree.get nat_cmp l.initial.self.pages n);
    }

abbrev pub decreases-loop-number : goal.decreases-loop-number
decreases-loop-number l = l.to - l.number * 2048
