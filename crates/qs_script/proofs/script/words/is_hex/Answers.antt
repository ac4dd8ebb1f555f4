use Rattle.std.proofs.Common.{◌∙◌}
use Rattle.qs_script.proofs.ScriptDigits.{hex_even}
use Rattle.qs_script.proofs.script.words.is_hex.Goals as goal

pub returns-then-word-eq0 : goal.returns-then-word-eq0
returns-then-word-eq0 c = c.are_hex.ensures ∙ hex_even c.args.word.now c.if-word-eq0.true
