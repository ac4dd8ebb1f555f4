use Rattle.std.proofs.Common.{◌≡◌, ◌++◌, drop}
use Rattle.std.specs.String.{string_bytes}
use Rattle.qs_trace.specs.Records.{records_from, trace_text}
use Rattle.qs_trace.proofs.events.trace.Given as goal

-- what is appended and what is left make up the whole
abbrev pub invariant-loop-time : goal.invariant-loop-time
invariant-loop-time l = string_bytes l.text ++ records_from l.side l.time (drop l.time l.log) ≡ trace_text l.side l.log
