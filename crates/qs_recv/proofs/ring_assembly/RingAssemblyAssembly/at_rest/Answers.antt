use Rattle.std.proofs.Common.{refl, rules}
use Rattle.qs_recv.specs.Ring.{byte_of}
use Rattle.qs_recv.proofs.LawfulLaws.{end_of-below}
use Rattle.qs_recv.proofs.RingApart.{sized_none}
use Rattle.qs_recv.proofs.RingLaws.{ring_at_rest, view_at_rest}
use Rattle.qs_recv.proofs.RingTurned.{came_none}
use Rattle.qs_recv.proofs.ring_assembly.RingAssemblyAssembly.at_rest.Goals as goal

pub invariant_of-result : goal.invariant_of-result
invariant_of-result c = rw c.below.ensures (search (rules, ring_at_rest, sized_none, end_of-below, came_none, c.below.ensures, c.requires.small, c.requires.in_range, c.requires.came, c.requires.all_read, c.none.ensures, c.none-2.ensures.none, c.none-2.ensures.len))

pub returns-clause-nothing : goal.returns-clause-nothing
returns-clause-nothing c = rw (c.below.ensures, view_at_rest (byte_of c.none.result.0 c.args.read_count c.none-2.result.pages) c.args.window c.args.read_count c.args.end c.args.discarding c.requires.all_read) refl
