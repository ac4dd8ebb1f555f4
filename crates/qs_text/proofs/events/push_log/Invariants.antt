use Rattle.std.proofs.Common.{◌≡◌, ◌++◌, take}
use Rattle.std.specs.List.{flat_map}
use Rattle.std.specs.String.{string_bytes}
use Rattle.qs_text.specs.EventText.{line, step_text}
use Rattle.qs_text.proofs.events.push_log.Given as goal

-- the lines so far are appended
abbrev pub invariant-loop-event : goal.invariant-loop-event
invariant-loop-event l = string_bytes l.text ≡ string_bytes l.fn.text ++ flat_map (λ x. line (step_text x)) (take l.event-index l.log)
