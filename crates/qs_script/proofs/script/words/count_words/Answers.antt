use Rattle.std.proofs.Common.{◌≡◌, length, [], sym, ap, ◌∙◌, arith}
use Rattle.std.proofs.lemmas.Grind.{common_steps}
use Rattle.qs_script.specs.Scripts.{words_of}
use Rattle.qs_script.proofs.ScriptWords.{no_word, empty_text}
use Rattle.qs_script.proofs.script.words.count_words.Goals as goal

pub returns-then-is_empty : goal.returns-then-is_empty
returns-then-is_empty c =
    let none : words_of c.loop-after.rest.now ≡ [] =
    no_word c.loop-after.rest.now (sym c.next_word.ensures.word ∙ empty_text c.next_word.result.0.now (sym c.is_empty.ensures ∙ c.if-is_empty.true)) in
    omega (arith, c.loop-after.invariant.whole, ap length none)
