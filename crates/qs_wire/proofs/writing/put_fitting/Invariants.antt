use Rattle.std.proofs.Common.{◌≡◌, ◌≤◌, length, take}
use Rattle.std.specs.List.{flat_map}
use Rattle.qs_wire.specs.Varint.{short}
use Rattle.qs_wire.proofs.writing.put_fitting.Given as goal

abbrev pub invariant-loop-number : goal.invariant-loop-number
invariant-loop-number l = (l.len ≡ length (flat_map short (take l.number-index l.numbers))) × (l.len ≤ length l.out)
