use Rattle.qs_machine.proofs.AckTokens.{joined_parts, ranges_are_tokens, an_ack_is_its_token, an_ack_is_its_tokens, an_ack_may_be_told}
use Rattle.qs_machine.proofs.laws.acks_are_their_tokens.Goals as goal

pub returns-clause-one : goal.returns-clause-one
returns-clause-one c = an_ack_is_its_token

pub returns-clause-several : goal.returns-clause-several
returns-clause-several c = λ e new largest ranges t ts sent same tells. an_ack_is_its_tokens e new largest ranges t ts sent same tells

pub returns-clause-told : goal.returns-clause-told
returns-clause-told c = λ e largest ranges t ts sent same may. an_ack_may_be_told e largest ranges t ts sent same may

pub returns-clause-ranges : goal.returns-clause-ranges
returns-clause-ranges c = λ e largest delay numbers ecn unclosed may. ranges_are_tokens e largest delay numbers ecn unclosed may

pub returns-clause-joined : goal.returns-clause-joined
returns-clause-joined c = λ e new t next whole sent is may step. joined_parts e new t next whole sent is may step
