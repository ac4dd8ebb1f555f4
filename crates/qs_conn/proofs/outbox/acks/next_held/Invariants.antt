use Rattle.std.proofs.Common.{◌≡◌, ◌≤◌, ◌<◌, ◌-◌, ℕ, true, false}
use Rattle.std.specs.FinMap as fmap
use Rattle.qs_conn.proofs.outbox.acks.next_held.Given as goal

abbrev pub invariant-loop-low : goal.invariant-loop-low
invariant-loop-low l =
    record {
      before : (l.from ≤ l.low) × ((k : ℕ) → l.from ≤ k → k < l.low → fmap.contains_key l.records.pieces k ≡ false);
      held : fmap.contains_key l.records.pieces l.top ≡ true;
      ordered : l.low ≤ l.top;
      step : 1 ≤ l.step;
    }

abbrev pub decreases-loop-low : goal.decreases-loop-low
decreases-loop-low l = l.top - l.low
