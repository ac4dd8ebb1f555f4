use Rattle.std.proofs.Common.{◌∙◌, sym}
use Rattle.qs_streams.proofs.BoardsOf.{flag_is}
use Rattle.qs_streams.proofs.boards.Boards.has.Goals as goal

pub returns : goal.returns
returns c = c.has.ensures ∙ rw (← c.self.view_is) (sym (flag_is c.self.inside.types c.args.stream c.type_of.result c.index_of.result c.index-self-type_of.result c.self.invariant c.type_of.ensures.value c.index_of.ensures.value _))
