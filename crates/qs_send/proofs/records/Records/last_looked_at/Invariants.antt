use Rattle.std.proofs.Common.{◌≡◌, ◌≤◌, ◌<◌, ◌+◌, ℕ, min, false}
use Rattle.std.specs.FinMap as fmap
use Rattle.qs_send.proofs.records.Records.last_looked_at.Given as goal

abbrev pub invariant-loop-place : goal.invariant-loop-place
invariant-loop-place l = record {
  within : l.place ≤ l.count;
  from : min l.from l.count ≤ l.place;
  none : (k : ℕ) → l.self.base + l.place ≤ k → k < l.self.base + l.count → fmap.contains_key l.self.pieces k ≡ false;
  looks : l.looks + l.place ≤ l.fn.looks + l.count;
  counted : l.fn.looks ≤ l.looks;
}

abbrev pub decreases-loop-place : goal.decreases-loop-place
decreases-loop-place l = l.place
