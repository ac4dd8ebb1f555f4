use Rattle.std.proofs.Common.{◌≡◌, ◌-◌, ◌≤◌, ◌<◌, length}
use Rattle.qs_chunks.specs.Chunks.{between, end_of_piece, piece_at, total}
use Rattle.qs_chunks.proofs.chunk_list.ChunkList.inner.Given as goal

abbrev pub invariant-loop-after : goal.invariant-loop-after
invariant-loop-after l =
    record {
      ordered : l.first ≤ l.after;
      in_bounds : l.after ≤ length l.self;
      last : l.first < l.after → end_of_piece (piece_at l.self (l.after - 1)) ≤ l.end;
      held : l.held ≡ total (between l.self l.first l.after);
    }

abbrev pub decreases-loop-after : goal.decreases-loop-after
decreases-loop-after l = length l.self - l.after
