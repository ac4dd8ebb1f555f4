use Rattle.std.proofs.Common.{◌≡◌, ◌++◌, length}
use Rattle.std.specs.List.{flat_map}
use Rattle.std.specs.String.{string_bytes}
use Rattle.qs_trace.specs.FrameJson.{more_frame, payload_json}
use Rattle.qs_trace.proofs.frame_json.push_payload.Given as goal

-- what is appended and what is left make up the whole
abbrev pub invariant-loop-placed : goal.invariant-loop-placed
invariant-loop-placed l = string_bytes l.text ++ flat_map more_frame l.frames.left ≡ string_bytes l.fn.text ++ payload_json l.payload

abbrev pub decreases-loop-placed : goal.decreases-loop-placed
decreases-loop-placed l = length l.frames.left
