use Rattle.std.proofs.Common.{sym, ◌∙◌}
use Rattle.qs_chunks.proofs.ChunkLaws.{len-stored_in}
use Rattle.qs_chunks.proofs.chunk_assembly.ChunkAssemblyAssembly.stored.Goals as goal

pub returns : goal.returns
returns c = rw (← c.self.view_is) (c.self.invariant.counted ∙ sym (len-stored_in c.self.inside.chunks c.self.inside.read_count c.self.invariant.ordered))
