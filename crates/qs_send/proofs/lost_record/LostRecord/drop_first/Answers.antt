use Rattle.std.proofs.Common.{rules}
use Rattle.std.proofs.lemmas.List.{drop-drop}
use Rattle.qs_send.proofs.lost_record.LostRecord.drop_first.Goals as goal

pub returns-clause-pieces : goal.returns-clause-pieces
returns-clause-pieces c = rw (← c.self.view_is) (search (rules, drop-drop))
