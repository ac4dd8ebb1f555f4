use Rattle.std.proofs.Common.{rules}
use Rattle.qs_recv.proofs.RingLaws.{size_fits}
use Rattle.qs_recv.proofs.ring_assembly.size_for.Goals as goal

pub returns : goal.returns
returns c = search (rules, size_fits)
