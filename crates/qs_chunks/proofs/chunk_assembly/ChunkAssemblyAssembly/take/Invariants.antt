use Rattle.std.proofs.Common.{◌≡◌, ◌≤◌, ◌-◌, ◌++◌, length, drop}
use Rattle.qs_recv.specs.Assembled.{front_of}
use Rattle.qs_recv.specs.Bytes.{take_exactly}
use Rattle.qs_chunks.proofs.chunk_assembly.ChunkAssemblyAssembly.take.Given as goal

abbrev pub invariant-loop-done : goal.invariant-loop-done
invariant-loop-done l =
    record {
      within : l.done ≤ length l.into;
      same_len : length l.into ≡ length l.initial.into;
      full : length (front_of l.initial.self l.done) ≡ l.done;
      out : l.into ≡ front_of l.initial.self l.done ++ drop l.done l.initial.into;
      state : l.self ≡ take_exactly l.initial.self l.done;
    }

abbrev pub decreases-loop-done : goal.decreases-loop-done
decreases-loop-done l = length l.into - l.done
