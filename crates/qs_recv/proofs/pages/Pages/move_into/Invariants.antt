use Rattle.std.proofs.Common.{◌≡◌, ℕ, ◌+◌, ◌-◌, ◌*◌, ◌/◌, ◌%◌, ◌<◌, ◌≤◌, ◌&&◌, if◌then◌else◌, nat_lt, max, length, slice_index, true, None}
use Rattle.std.specs.Ordering.{nat_cmp}
use Rattle.std.specs.BTreeMap as tree
use Rattle.qs_recv.specs.Pages.{has_page, moved_byte}
use Rattle.qs_recv.specs.Ring.{IsThere, StayWritten}
use Rattle.qs_recv.proofs.pages.Pages.move_into.Given as goal

abbrev pub invariant-loop-number : goal.invariant-loop-number
invariant-loop-number l =
    record {
      begins : l.from < l.number * 2048;
      small : l.number * 2048 ≤ max (l.from + 2048) (l.to + 2048);
      same_len : length l.ring.0 ≡ length l.initial.ring.0;
      kept : StayWritten l.initial.ring l.ring;
      there : (q : ℕ) → l.from / 2048 < q / 2048 → q / 2048 < l.number → q < l.to → has_page l.initial.self.pages q ≡ true → IsThere l.ring q;
      left : (n : ℕ) → tree.get nat_cmp l.self.pages n ≡ (if nat_lt (l.from / 2048) n && (nat_lt n l.number && nat_lt (n * 2048) l.to) then None else tree.get nat_cmp l.initial.self.pages n);
      moved : (base q : ℕ) → base ≤ l.from → l.to ≤ base + length l.initial.ring.0 → base ≤ q → q < l.to
          → slice_index l.ring.0 (q % length l.initial.ring.0) ≡ (if nat_lt (q / 2048) l.number then moved_byte l.initial.self.pages l.from q (slice_index l.initial.ring.0 (q % length l.initial.ring.0)) else slice_index l.initial.ring.0 (q % length l.initial.ring.0));
    }

abbrev pub decreases-loop-number : goal.decreases-loop-number
decreases-loop-number l = l.to - l.number * 2048
