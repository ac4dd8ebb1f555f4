use Rattle.qs_trace.proofs.Appending.{goes_on}
use Rattle.qs_trace.proofs.frame_json.push_other_members.Goals as goal

pub returns-in_ok-push_close-in-ApplicationClose : goal.returns-in_ok-push_close-in-ApplicationClose
returns-in_ok-push_close-in-ApplicationClose c =
    rw c.in-ApplicationClose.is (goes_on _ _ _ _ _ _ c.in_ok-push_close-in-ApplicationClose.ensures c.push_reason.ensures)

pub returns-in_ok-push_close-in-ConnectionClose : goal.returns-in_ok-push_close-in-ConnectionClose
returns-in_ok-push_close-in-ConnectionClose c =
    rw c.in-ConnectionClose.is (goes_on _ _ _ _ _ _ c.in_ok-push_close-in-ConnectionClose.ensures c.push_fault.ensures)

pub returns-in_ok-push_sequence-in-NewConnectionId : goal.returns-in_ok-push_sequence-in-NewConnectionId
returns-in_ok-push_sequence-in-NewConnectionId c =
    rw c.in-NewConnectionId.is (goes_on _ _ _ _ _ _ c.in_ok-push_sequence-in-NewConnectionId.ensures c.push_ids.ensures)
