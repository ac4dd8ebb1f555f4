use Rattle.std.proofs.Common.{ℕ, ap, refl, true}
use Rattle.std.specs.Ordering.{nat_cmp}
use Rattle.std.specs.FinMap as map
use Rattle.std.proofs.lemmas.Bool.{both_ways}
use Rattle.qs_recv.specs.Assembled.{discard}
use Rattle.qs_chunks.proofs.KeptLaws.{kept_none, nothing_stored_in}
use Rattle.qs_chunks.proofs.chunk_assembly.ChunkAssemblyAssembly.discard.Goals as goal

pub invariant_of-self : goal.invariant_of-self
invariant_of-self c = rw c.clear_all.ensures (kept_none c.self.inside.received c.self.inside.read_count true c.self.invariant.read_came (λ off. absurd (both_ways true off refl)))

pub returns-clause-after : goal.returns-clause-after
returns-clause-after c = rw (c.clear_all.ensures, nothing_stored_in) (ap discard c.self.view_is)

pub returns-clause-gone : goal.returns-clause-gone
returns-clause-gone c = rw (c.clear_all.ensures, nothing_stored_in) (map.len-empty nat_cmp ℕ)
