use Rattle.std.proofs.Common.{◌≡◌, length, take}
use Rattle.std.specs.List.{flat_map}
use Rattle.qs_wire.specs.Varint.{short}
use Rattle.qs_wire.specs.Writing.{Puts}
use Rattle.qs_wire.proofs.writing.put_numbers.Given as goal

-- the numbers so far are written
abbrev pub invariant-loop-number : goal.invariant-loop-number
invariant-loop-number l = record {
  at_end : l.at ≡ length (flat_map short (take l.number-index l.numbers));
  puts : Puts 0 (flat_map short (take l.number-index l.numbers)) l.fn.out l.out;
}
