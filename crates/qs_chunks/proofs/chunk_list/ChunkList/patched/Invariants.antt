use Rattle.std.proofs.Common.{◌≡◌, ℕ, ◌+◌, ◌-◌, ◌≤◌, length}
use Rattle.std.specs.FinMap as map
use Rattle.qs_recv.specs.Bytes.{byte_at}
use Rattle.qs_chunks.specs.Chunks.{IsOrdered, between, or_else, pieces_end, stored_in}
use Rattle.qs_chunks.proofs.chunk_list.ChunkList.patched.Given as goal

abbrev pub invariant-loop-place : goal.invariant-loop-place
invariant-loop-place l =
    record {
      low : l.spot.first ≤ l.place;
      high : l.place ≤ l.spot.after;
      same_len : length l.new.items ≡ length l.bytes;
      inner : IsOrdered l.spot.from (between l.self l.place l.spot.after);
      inner_ends : pieces_end l.spot.from (between l.self l.place l.spot.after) ≤ l.spot.from + length l.bytes;
      joined : (q : ℕ) → or_else (map.get (stored_in (between l.self l.place l.spot.after)) q) (byte_at l.spot.from l.new.items q)
          ≡ or_else (map.get (stored_in (between l.self l.spot.first l.spot.after)) q) (byte_at l.spot.from l.bytes q);
    }

abbrev pub decreases-loop-place : goal.decreases-loop-place
decreases-loop-place l = l.spot.after - l.place
