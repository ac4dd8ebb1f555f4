use Rattle.std.proofs.Common.{sym, ◌∙◌}
use Rattle.qs_wire.proofs.Numbers.{length-short}
use Rattle.qs_wire.proofs.writing.len_if.Goals as goal

pub returns-then-there-clause-exact : goal.returns-then-there-clause-exact
returns-then-there-clause-exact c = rw c.if-there.true (c.varint_len.ensures.exact ∙ sym (length-short c.args.value))
