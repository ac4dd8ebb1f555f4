use Rattle.qs_conn.proofs.MadePackets.{tells_all, tells_same}
use Rattle.qs_conn.proofs.middle.Core.has_wanted_item.Goals as goal

pub returns-then-want : goal.returns-then-want
returns-then-want c = λ e. tells_same c.has_item.result _ _ (λ found. (c.if-want.true, found)) (λ (on, found). found) (tells_all _ _ (c.has_item.ensures e))
