use Rattle.std.proofs.Common.{◌≡◌, ℕ, ◌+◌, ◌-◌, ◌<◌, ◌≤◌, length, slice_index}
use Rattle.qs_recv.specs.Pages.{page_byte}
use Rattle.qs_recv.proofs.pages.Pages.are_at.Given as goal

abbrev pub invariant-loop-done : goal.invariant-loop-done
invariant-loop-done l =
    record {
      within : l.done ≤ length l.bytes;
      before : (k : ℕ) → k < l.done → slice_index l.bytes k ≡ page_byte l.self.pages (l.at + k);
    }

abbrev pub decreases-loop-done : goal.decreases-loop-done
decreases-loop-done l = length l.bytes - l.done
