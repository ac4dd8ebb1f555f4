use Rattle.std.proofs.Common.{◌≡◌, ◌+◌, ◌≤◌, length, take}
use Rattle.qs_wire.specs.Writing.{Puts}
use Rattle.qs_wire.proofs.PairLaws.{last_below, text_below}
use Rattle.qs_wire.proofs.acks.put_ranges.Given as goal

-- the ranges so far are written
abbrev pub invariant-loop-pair : goal.invariant-loop-pair
invariant-loop-pair l = record {
  count : l.count ≡ l.pair-index;
  next : l.next ≡ l.at + length (text_below l.smallest (take l.pair-index l.pairs));
  within : l.next ≤ length l.fn.out;
  puts : Puts l.at (text_below l.smallest (take l.pair-index l.pairs)) l.fn.out l.out;
  above : l.above ≡ last_below l.smallest (take l.pair-index l.pairs);
}
