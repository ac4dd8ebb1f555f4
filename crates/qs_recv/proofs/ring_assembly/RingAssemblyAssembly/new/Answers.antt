use Rattle.std.proofs.Common.{refl, rules}
use Rattle.qs_ranges.proofs.Sets.{end_of-empty}
use Rattle.qs_recv.specs.Ring.{byte_of}
use Rattle.qs_recv.proofs.RingApart.{sized_none}
use Rattle.qs_recv.proofs.RingLaws.{empty_ring, new_ring}
use Rattle.qs_recv.proofs.RingTurned.{came_none}
use Rattle.qs_recv.proofs.ring_assembly.RingAssemblyAssembly.new.Goals as goal

pub invariant_of-result : goal.invariant_of-result
invariant_of-result c = rw c.new.ensures (search (rules, new_ring, sized_none, end_of-empty, came_none, c.new.ensures, c.requires.small, c.none.ensures, c.none-2.ensures.none, c.none-2.ensures.len))

pub returns-clause-empty : goal.returns-clause-empty
returns-clause-empty c = rw (c.new.ensures, empty_ring (byte_of c.none.result.0 0 c.none-2.result.pages) c.args.window 0 c.args.window) refl
