use Rattle.std.proofs.Common.{refl, sym, ◌∙◌}
use Rattle.qs_script.proofs.ScriptWords.{no_word, empty_text, some_text, says_nothing, says_event, unread}
use Rattle.qs_script.proofs.script.line.parse_line.Goals as goal

pub returns-then-is_empty-clause-read : goal.returns-then-is_empty-clause-read
returns-then-is_empty-clause-read c =
    says_nothing c.args.line.now
    (no_word c.args.line.now (sym c.next_word.ensures.word ∙ empty_text c.next_word.result.0.now (sym c.is_empty.ensures ∙ c.if-is_empty.true)))

pub returns-in-Ok-clause-read : goal.returns-in-Ok-clause-read
returns-in-Ok-clause-read c =
    let says = says_event c.args.line.now c.next_word.result.0.now c.next_word.result.1.now (sym c.is_comment.ensures ∙ c.if-is_comment.false) c.next_word.ensures.word
    (some_text c.next_word.result.0.now (sym c.is_empty.ensures ∙ c.if-is_empty.false)) c.next_word.ensures.rest in
    rw (says, c.in-Ok.ensures.read) refl

pub returns-in-Err-clause-read : goal.returns-in-Err-clause-read
returns-in-Err-clause-read c =
    let says = says_event c.args.line.now c.next_word.result.0.now c.next_word.result.1.now (sym c.is_comment.ensures ∙ c.if-is_comment.false) c.next_word.ensures.word
    (some_text c.next_word.result.0.now (sym c.is_empty.ensures ∙ c.if-is_empty.false)) c.next_word.ensures.rest in
    rw says (unread _ c.in-Err.reason c.in-Err.ensures.read)
