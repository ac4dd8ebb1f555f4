use Rattle.std.proofs.Common.{◌≡◌, length, None}
use Rattle.qs_wire.specs.Grammar.{frames_of}
use Rattle.qs_wire.specs.Reading.{reading_of}
use Rattle.qs_wire.specs.LastStream.{last_stream_of}
use Rattle.qs_wire.proofs.turns.last_stream.Given as goal

abbrev pub invariant-loop-placed : goal.invariant-loop-placed
invariant-loop-placed l = record { last : last_stream_of l.last (frames_of l.frames.left) ≡ last_stream_of None (frames_of (reading_of l.payload).left) }

abbrev pub decreases-loop-placed : goal.decreases-loop-placed
decreases-loop-placed l = length l.frames.left
