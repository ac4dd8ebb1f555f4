use Rattle.std.proofs.Common.{sym, ◌∙◌}
use Rattle.qs_script.specs.Scripts.{all_verbs}
use Rattle.qs_script.proofs.ScriptWords.{next_verb}
use Rattle.qs_script.proofs.script.line.Verb.parse.Goals as goal

pub loop-verb-preserved : goal.loop-verb-preserved
loop-verb-preserved c =
    c.loop-verb.invariant
    ∙ next_verb all_verbs c.loop-verb.verb-index _ c.args.word.now _ c.loop-verb-test.true c.name.ensures (sym c.eq.ensures ∙ c.if-eq.false)
