use Rattle.std.proofs.Common.{ℕ, refl, arith, false}
use Rattle.std.specs.Ordering.{nat_cmp}
use Rattle.std.specs.FinMap as map
use Rattle.std.specs.FinSet as set
use Rattle.std.proofs.lemmas.Bool.{both_ways}
use Rattle.qs_chunks.proofs.KeptLaws.{kept_none, nothing_stored_in}
use Rattle.qs_chunks.proofs.chunk_assembly.ChunkAssemblyAssembly.new.Goals as goal

pub invariant_of-result : goal.invariant_of-result
invariant_of-result c = rw (c.new.ensures, c.new-2.ensures) (kept_none set.empty 0 false (λ q below. absurd (omega arith)) (λ _ q some. absurd (both_ways _ (set.contains-empty nat_cmp q) some)))

pub returns-clause-empty : goal.returns-clause-empty
returns-clause-empty c = rw (c.new.ensures, c.new-2.ensures, nothing_stored_in) refl

pub returns-clause-small : goal.returns-clause-small
returns-clause-small c = rw (c.new.ensures, nothing_stored_in) (map.len-empty nat_cmp ℕ)
