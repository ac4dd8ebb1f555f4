use Rattle.qs_trace.proofs.Appending.{goes_on}
use Rattle.qs_trace.proofs.frame_json.push_ids.Goals as goal

pub returns : goal.returns
returns c = goes_on _ _ _ _ _ _ c.in_ok-push_bytes.ensures c.push_bytes-2.ensures
