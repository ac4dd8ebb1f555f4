use Rattle.std.proofs.Common.{◌≡◌, ◌+◌, ◌≤◌, length}
use Rattle.qs_script.specs.Scripts.{words_of}
use Rattle.qs_script.proofs.script.words.count_words.Given as goal

-- the words so far and those that are left make up the whole
abbrev pub invariant-loop-after : goal.invariant-loop-after
invariant-loop-after l = record {
  whole : l.count + length (words_of l.rest) ≡ length (words_of l.line);
  short : l.count + length l.rest ≤ length l.line;
}

abbrev pub decreases-loop-after : goal.decreases-loop-after
decreases-loop-after l = length l.rest
