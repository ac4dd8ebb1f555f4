use Rattle.std.proofs.Common.{◌≡◌, take}
use Rattle.std.specs.String.{string_bytes}
use Rattle.qs_text.specs.EventText.{script_text}
use Rattle.qs_text.proofs.events.script_text.Given as goal

-- the lines so far are there
abbrev pub invariant-loop-event : goal.invariant-loop-event
invariant-loop-event l = string_bytes l.text ≡ script_text (take l.event-index l.events)
