use Rattle.std.proofs.Common.{refl}
use Rattle.qs_wire.specs.Grammar.{canonical}
use Rattle.qs_wire.proofs.writing.parts_of.Goals as goal

pub returns-in-Ack-clause-text : goal.returns-in-Ack-clause-text
unfolding canonical
returns-in-Ack-clause-text c = rw (c.parts-in-Ack.ensures.text, c.is_some.ensures, c.in-Ack.is) refl

pub returns-in-ResetStream-clause-text : goal.returns-in-ResetStream-clause-text
unfolding canonical
returns-in-ResetStream-clause-text c = rw (c.parts-in-ResetStream.ensures.text, c.value.ensures.same, c.in-ResetStream.is) refl

pub returns-in-StopSending-clause-text : goal.returns-in-StopSending-clause-text
unfolding canonical
returns-in-StopSending-clause-text c = rw (c.parts-in-StopSending.ensures.text, c.value-in-StopSending.ensures.same, c.in-StopSending.is) refl

pub returns-in-Crypto-clause-text : goal.returns-in-Crypto-clause-text
unfolding canonical
returns-in-Crypto-clause-text c = rw (c.parts-in-Crypto.ensures.text, c.in-Crypto.is) refl

pub returns-in-NewToken-clause-text : goal.returns-in-NewToken-clause-text
unfolding canonical
returns-in-NewToken-clause-text c = rw (c.parts-in-NewToken.ensures.text, c.in-NewToken.is) refl

pub returns-in-Stream-clause-text : goal.returns-in-Stream-clause-text
unfolding canonical
returns-in-Stream-clause-text c = rw (c.parts-in-Stream.ensures.text, c.value-in-Stream.ensures.same, c.number_if.ensures.text, c.in-Stream.is) refl

pub returns-in-MaxData-clause-text : goal.returns-in-MaxData-clause-text
unfolding canonical
returns-in-MaxData-clause-text c = rw (c.parts-in-MaxData.ensures.text, c.in-MaxData.is) refl

pub returns-in-MaxStreamData-clause-text : goal.returns-in-MaxStreamData-clause-text
unfolding canonical
returns-in-MaxStreamData-clause-text c = rw (c.parts-in-MaxStreamData.ensures.text, c.value-in-MaxStreamData.ensures.same, c.in-MaxStreamData.is) refl

pub returns-in-MaxStreams-clause-text : goal.returns-in-MaxStreams-clause-text
unfolding canonical
returns-in-MaxStreams-clause-text c = rw (c.parts-in-MaxStreams.ensures.text, c.in-MaxStreams.is) refl

pub returns-in-DataBlocked-clause-text : goal.returns-in-DataBlocked-clause-text
unfolding canonical
returns-in-DataBlocked-clause-text c = rw (c.parts-in-DataBlocked.ensures.text, c.in-DataBlocked.is) refl

pub returns-in-StreamDataBlocked-clause-text : goal.returns-in-StreamDataBlocked-clause-text
unfolding canonical
returns-in-StreamDataBlocked-clause-text c = rw (c.parts-in-StreamDataBlocked.ensures.text, c.value-in-StreamDataBlocked.ensures.same, c.in-StreamDataBlocked.is) refl

pub returns-in-StreamsBlocked-clause-text : goal.returns-in-StreamsBlocked-clause-text
unfolding canonical
returns-in-StreamsBlocked-clause-text c = rw (c.parts-in-StreamsBlocked.ensures.text, c.in-StreamsBlocked.is) refl

pub returns-in-NewConnectionId-clause-text : goal.returns-in-NewConnectionId-clause-text
unfolding canonical
returns-in-NewConnectionId-clause-text c = rw (c.parts-in-NewConnectionId.ensures.text, c.in-NewConnectionId.is) refl

pub returns-in-RetireConnectionId-clause-text : goal.returns-in-RetireConnectionId-clause-text
unfolding canonical
returns-in-RetireConnectionId-clause-text c = rw (c.parts-in-RetireConnectionId.ensures.text, c.in-RetireConnectionId.is) refl

pub returns-in-PathChallenge-clause-text : goal.returns-in-PathChallenge-clause-text
unfolding canonical
returns-in-PathChallenge-clause-text c = rw (c.parts-in-PathChallenge.ensures.text, c.in-PathChallenge.is) refl

pub returns-in-PathResponse-clause-text : goal.returns-in-PathResponse-clause-text
unfolding canonical
returns-in-PathResponse-clause-text c = rw (c.parts-in-PathResponse.ensures.text, c.in-PathResponse.is) refl

pub returns-in-ConnectionClose-clause-text : goal.returns-in-ConnectionClose-clause-text
unfolding canonical
returns-in-ConnectionClose-clause-text c = rw (c.parts-in-ConnectionClose.ensures.text, c.in-ConnectionClose.is) refl

pub returns-in-ApplicationClose-clause-text : goal.returns-in-ApplicationClose-clause-text
unfolding canonical
returns-in-ApplicationClose-clause-text c = rw (c.parts-in-ApplicationClose.ensures.text, c.in-ApplicationClose.is) refl
