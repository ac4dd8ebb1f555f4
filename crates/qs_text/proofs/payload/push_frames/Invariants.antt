use Rattle.std.proofs.Common.{◌≡◌, ◌++◌, length}
use Rattle.std.specs.String.{string_bytes}
use Rattle.qs_wire.specs.Grammar.{canonical_all, frames_of}
use Rattle.qs_wire.specs.Reading.{reading_of}
use Rattle.qs_text.specs.FrameText.{lines_of}
use Rattle.qs_text.proofs.payload.push_frames.Given as goal

-- what is appended and what is left make up the whole
abbrev pub invariant-loop-placed : goal.invariant-loop-placed
invariant-loop-placed l = record {
  lines : string_bytes l.text ++ lines_of l.frames.left ≡ string_bytes l.fn.text ++ lines_of (reading_of l.payload).left;
  canonical : l.canonical.items ++ canonical_all (frames_of l.frames.left) ≡ l.fn.canonical.items ++ canonical_all (frames_of (reading_of l.payload).left);
  fault : l.frames.fault ≡ (reading_of l.payload).fault;
}

abbrev pub decreases-loop-placed : goal.decreases-loop-placed
decreases-loop-placed l = length l.frames.left
