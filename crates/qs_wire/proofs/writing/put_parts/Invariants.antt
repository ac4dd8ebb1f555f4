use Rattle.std.proofs.Common.{◌≡◌, length, take}
use Rattle.std.specs.List.{flat_map}
use Rattle.qs_wire.specs.Writing.{part_text, Puts}
use Rattle.qs_wire.proofs.writing.put_parts.Given as goal

-- the parts so far are written
abbrev pub invariant-loop-part : goal.invariant-loop-part
invariant-loop-part l = record {
  at_end : l.at ≡ length (flat_map part_text (take l.part-index l.parts));
  puts : Puts 0 (flat_map part_text (take l.part-index l.parts)) l.fn.out l.out;
}
