use Rattle.std.proofs.Common.{◌≡◌, ℕ, ◌-◌, ◌<◌, ◌≤◌, slice_index, true}
use Rattle.std.specs.FinSet as set
use Rattle.qs_recv.specs.Ring.{byte_of}
use Rattle.qs_recv.proofs.ring_assembly.is_kept.Given as goal

abbrev pub invariant-loop-at : goal.invariant-loop-at
invariant-loop-at l =
    record {
      begins : l.start ≤ l.at;
      before : (q : ℕ) → l.start ≤ q → q < l.at → set.contains l.received q ≡ true → slice_index l.bytes (q - l.offset) ≡ byte_of l.ring.0 l.near l.apart.pages q;
    }

abbrev pub decreases-loop-at : goal.decreases-loop-at
decreases-loop-at l = l.end - l.at
