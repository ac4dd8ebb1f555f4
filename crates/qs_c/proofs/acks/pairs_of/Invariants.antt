use Rattle.std.proofs.Common.{◌≡◌, length, take, map}
use Rattle.qs_c.specs.Acks.{pair_of}
use Rattle.qs_c.proofs.acks.pairs_of.Given as goal

-- the pairs so far
abbrev pub invariant-loop-i : goal.invariant-loop-i
invariant-loop-i l = record {
  room : length l.pairs ≡ 32;
  so_far : take l.i l.pairs ≡ map pair_of (take l.i l.ranges);
}
