use Rattle.std.proofs.Common.{◌≡◌, sym, ap, ◌∙◌, take, drop}
use Rattle.qs_script.proofs.ScriptLines.{lines_some, lines_none}
use Rattle.qs_script.specs.Scripts.{bare, lines_of}
use Rattle.qs_script.proofs.script.split_line.Goals as goal

pub returns-in-Some-clause-lines : goal.returns-in-Some-clause-lines
returns-in-Some-clause-lines c =
    rw (c.without_return.ensures, c.split_at.ensures.front, c.split_at-in-Some.ensures.back, c.split_at.ensures.back)
    (lines_some c.args.text.now c.in-Some.place (sym c.line_feed.ensures ∙ c.in-Some.is))

pub returns-in-None-clause-lines : goal.returns-in-None-clause-lines
returns-in-None-clause-lines c = lines_none c.args.text.now c.requires (sym c.line_feed.ensures ∙ c.in-None.is)
