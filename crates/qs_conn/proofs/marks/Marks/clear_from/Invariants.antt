use Rattle.std.proofs.Common.{◌≡◌, ◌<◌, ◌≤◌, ℕ, false, length}
use Rattle.qs_conn.specs.Marks.{is_marked}
use Rattle.qs_conn.proofs.marks.Marks.clear_from.Given as goal

abbrev pub invariant-loop-index : goal.invariant-loop-index
invariant-loop-index l =
    record {
      len : length l.self ≡ length l.fn.self;
      kept : (i : ℕ) → i < l.count → is_marked l.self i ≡ is_marked l.fn.self i;
      none : (i : ℕ) → l.count ≤ i → i < l.index → is_marked l.self i ≡ false;
    }
