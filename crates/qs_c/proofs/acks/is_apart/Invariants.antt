use Rattle.std.proofs.Common.{◌≡◌, ◌+◌, ◌^◌, ◌≤◌, drop}
use Rattle.qs_c.specs.Acks.{are_apart}
use Rattle.qs_c.proofs.acks.is_apart.Given as goal

-- the ranges so far lie apart, and it hangs on those that are left
abbrev pub invariant-loop-range : goal.invariant-loop-range
invariant-loop-range l = record {
  above_small : l.above ≤ 2 ^ 62 + 1;
  so_far : are_apart l.above (drop l.range-index l.ranges) ≡ are_apart (2 ^ 62 + 1) l.ranges;
}
