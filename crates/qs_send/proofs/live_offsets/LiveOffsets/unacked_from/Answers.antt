use Rattle.qs_ranges.proofs.Sets.{missing_from-of}
use Rattle.qs_send.proofs.live_offsets.LiveOffsets.unacked_from.Goals as goal

pub returns : goal.returns
returns c = rw (← c.self.view_is) (missing_from-of c.self.inside.acked 0 c.first_missing.result c.first_missing.ensures.missing)
