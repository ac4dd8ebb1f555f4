use Rattle.qs_machine.proofs.Ways.{order_stays, payload_tokens, payload_frames, payload_take_frames, frame_take}
use Rattle.qs_machine.proofs.laws.payloads_are_their_frames.Goals as goal

pub returns-clause-effects : goal.returns-clause-effects
returns-clause-effects c = payload_frames

pub returns-clause-several : goal.returns-clause-several
returns-clause-several c = payload_take_frames

pub returns-clause-one : goal.returns-clause-one
returns-clause-one c = frame_take

pub returns-clause-tokens : goal.returns-clause-tokens
returns-clause-tokens c = payload_tokens

pub returns-clause-order : goal.returns-clause-order
returns-clause-order c = order_stays
