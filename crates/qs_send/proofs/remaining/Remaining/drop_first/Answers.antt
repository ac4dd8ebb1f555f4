use Rattle.std.proofs.Common.{sym}
use Rattle.std.proofs.lemmas.List.{drop-drop}
use Rattle.qs_send.proofs.remaining.Remaining.drop_first.Goals as goal

pub returns : goal.returns
returns c = rw (← c.self.view_is) (sym (drop-drop 1 c.self.inside.start c.self.inside.pieces.items))
