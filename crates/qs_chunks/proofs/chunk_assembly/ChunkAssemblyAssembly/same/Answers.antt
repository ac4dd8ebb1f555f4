use Rattle.std.proofs.Common.{arith}
use Rattle.qs_chunks.proofs.KeptLaws.{IsOrdered-lower}
use Rattle.qs_chunks.proofs.chunk_assembly.ChunkAssemblyAssembly.same.Goals as goal

pub agree-requires-clause-ordered : goal.agree-requires-clause-ordered
agree-requires-clause-ordered c = IsOrdered-lower c.self.inside.chunks c.self.inside.read_count 0 (omega arith) c.self.invariant.ordered
