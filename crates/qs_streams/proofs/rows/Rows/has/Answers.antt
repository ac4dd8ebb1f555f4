use Rattle.std.proofs.Common.{◌∙◌, sym, arith}
use Rattle.qs_streams.proofs.Flags.{has_past, has_read}
use Rattle.qs_streams.proofs.rows.Rows.has.Goals as goal

pub returns-then-index-len : goal.returns-then-index-len
returns-then-index-len c = rw (← c.self.view_is) (sym (has_past _ _ _ (omega (arith, c.len.ensures, c.if-index-len.true))))

pub returns : goal.returns
returns c = c.has_bit.ensures ∙ rw c.word.ensures (has_read _ _ _)
