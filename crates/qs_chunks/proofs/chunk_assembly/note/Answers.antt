use Rattle.std.proofs.Common.{sym}
use Rattle.qs_chunks.proofs.NewsLaws.{with_none}
use Rattle.qs_chunks.proofs.chunk_assembly.note.Goals as goal

pub returns-then-lo-hi-clause-ok : goal.returns-then-lo-hi-clause-ok
returns-then-lo-hi-clause-ok c = sym (with_none _ _ _ c.if-lo-hi.true)
