use Rattle.std.proofs.Common.{◌≡◌, ◌++◌, take}
use Rattle.std.specs.List.{flat_map}
use Rattle.std.specs.String.{string_bytes}
use Rattle.qs_text.specs.EventText.{line}
use Rattle.qs_world.specs.PlayText.{lane_text}
use Rattle.qs_cli.proofs.report_text.push_lanes.Given as goal

-- the lines so far are appended
abbrev pub invariant-loop-lane : goal.invariant-loop-lane
invariant-loop-lane l = string_bytes l.text ≡ string_bytes l.fn.text ++ flat_map (λ x. line (lane_text x)) (take l.lane-index l.lanes)
