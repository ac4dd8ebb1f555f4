use Rattle.std.proofs.Common.{refl}
use Rattle.qs_wire.specs.Bodies.{judged_body_at}
use Rattle.qs_wire.specs.Reading.{body_at}
use Rattle.qs_wire.proofs.bodies.body_at.Goals as goal

pub returns-in-Padding : goal.returns-in-Padding
unfolding body_at judged_body_at
returns-in-Padding c = rw c.in-Padding.is refl

pub returns-in-Ping : goal.returns-in-Ping
unfolding body_at judged_body_at
returns-in-Ping c = rw c.in-Ping.is refl

pub returns-in-HandshakeDone : goal.returns-in-HandshakeDone
unfolding body_at judged_body_at
returns-in-HandshakeDone c = rw c.in-HandshakeDone.is refl
