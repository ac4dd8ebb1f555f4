use Rattle.std.proofs.Common.{◌≡◌, ◌+◌, ◌≤◌, length, map, true}
use Rattle.std.specs.List.{list_all}
use Rattle.qs_calls.specs.Events.{fits}
use Rattle.qs_script.specs.Scripts.{lines_of, lines_say, script_of, said}
use Rattle.qs_script.proofs.ScriptLines.{prepend}
use Rattle.qs_script.proofs.script.parse_script.Given as goal

-- what the lines so far said, and what those that are left say, make up the whole
abbrev pub invariant-loop-rest : goal.invariant-loop-rest
invariant-loop-rest l = record {
  fit : list_all fits l.events.items ≡ true;
  whole : prepend (map said l.events.items) (lines_say (l.line + 1) (lines_of l.rest)) ≡ script_of l.fn.script;
  counted : l.line + length (lines_of l.rest) ≤ length (lines_of l.fn.script);
  short : l.line + length l.rest ≤ length l.fn.script;
}

abbrev pub decreases-loop-rest : goal.decreases-loop-rest
decreases-loop-rest l = length l.rest
