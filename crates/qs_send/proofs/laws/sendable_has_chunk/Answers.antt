use Rattle.qs_send.proofs.Steps.{sendable_has_chunk, sendable_end_has_chunk}
use Rattle.qs_send.proofs.laws.sendable_has_chunk.Goals as goal

pub returns : goal.returns
returns c = record { offset = sendable_has_chunk; end = sendable_end_has_chunk }
