use Rattle.std.proofs.Common.{◌≡◌, ◌-◌, length, drop}
use Rattle.qs_recv.specs.Assembled.{same}
use Rattle.qs_chunks.specs.Chunks.{stored_in}
use Rattle.qs_chunks.proofs.chunk_list.ChunkList.agree.Given as goal

abbrev pub invariant-loop-next : goal.invariant-loop-next
invariant-loop-next l = same (stored_in l.self) l.offset l.bytes ≡ same (stored_in (drop l.next l.self)) l.offset l.bytes

abbrev pub decreases-loop-next : goal.decreases-loop-next
decreases-loop-next l = length l.self - l.next
