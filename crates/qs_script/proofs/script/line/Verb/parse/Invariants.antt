use Rattle.std.proofs.Common.{◌≡◌, drop}
use Rattle.qs_script.specs.Scripts.{verb_among, all_verbs}
use Rattle.qs_script.proofs.script.line.Verb.parse.Given as goal

-- the word is none of the names so far
abbrev pub invariant-loop-verb : goal.invariant-loop-verb
invariant-loop-verb l = verb_among all_verbs l.word ≡ verb_among (drop l.verb-index all_verbs) l.word
