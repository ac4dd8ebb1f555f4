use Rattle.std.proofs.Common.{◌∙◌, sym}
use Rattle.qs_streams.proofs.Flags.{on_test}
use Rattle.qs_streams.proofs.boards.Boards.may_have.Goals as goal

pub returns : goal.returns
returns c off n = rw (← c.row_of.ensures.value) (c.some.ensures c.row_of.result c.row_of.ensures.small (sym (on_test c.some.result c.row_of.result) ∙ off) n)
