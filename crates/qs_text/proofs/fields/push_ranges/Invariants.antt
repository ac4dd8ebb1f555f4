use Rattle.std.proofs.Common.{◌≡◌, ◌++◌, length}
use Rattle.std.specs.List.{flat_map}
use Rattle.std.specs.String.{string_bytes}
use Rattle.qs_text.specs.FrameText.{more_text, ranges_text}
use Rattle.qs_text.proofs.fields.push_ranges.Given as goal

-- what is appended and what is left make up the whole
abbrev pub invariant-loop-smallest : goal.invariant-loop-smallest
invariant-loop-smallest l = string_bytes l.text ++ flat_map more_text l.ranges ≡ string_bytes l.fn.text ++ ranges_text l.fn.ranges

abbrev pub decreases-loop-smallest : goal.decreases-loop-smallest
decreases-loop-smallest l = length l.ranges
