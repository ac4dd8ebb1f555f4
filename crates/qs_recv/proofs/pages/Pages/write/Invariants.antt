use Rattle.std.proofs.Common.{◌≡◌, ℕ, ◌+◌, ◌-◌, ◌≤◌, if◌then◌else◌, length, slice_index}
use Rattle.qs_ranges.specs.Numbers.{is_within}
use Rattle.qs_recv.specs.Pages.{AreWhole, is_used, page_byte}
use Rattle.qs_recv.proofs.pages.Pages.write.Given as goal

abbrev pub invariant-loop-done : goal.invariant-loop-done
invariant-loop-done l =
    record {
      within : l.done ≤ length l.bytes;
      whole : AreWhole l.self.pages;
      stay : (n : ℕ) → is_used l.self.pages n ≡ is_used l.initial.self.pages n;
      written : (q : ℕ) → page_byte l.self.pages q ≡ (if is_within l.at (l.at + l.done) q then slice_index l.bytes (q - l.at) else page_byte l.initial.self.pages q);
    }

abbrev pub decreases-loop-done : goal.decreases-loop-done
decreases-loop-done l = length l.bytes - l.done
