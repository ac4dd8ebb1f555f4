use Rattle.qs_conn.proofs.MadePackets.{tells_all, tells_or}
use Rattle.qs_conn.proofs.middle.Core.has_frame.Goals as goal

pub returns : goal.returns
returns c = λ e. tells_or _ _ _ _ c.if-has_stream.false (c.has_stream.ensures e) (tells_all _ _ (c.has_item.ensures e))
