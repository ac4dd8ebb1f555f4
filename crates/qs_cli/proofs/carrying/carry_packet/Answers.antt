use Rattle.std.proofs.Common.{ap, sym, ◌∙◌}
use Rattle.qs_cli.specs.Carrying.{after_send, after_recv}
use Rattle.qs_cli.proofs.Carried.{lost_instead, arrives}
use Rattle.qs_cli.proofs.carrying.carry_packet.Goals as goal

pub returns-in_default-send-clause-step : goal.returns-in_default-send-clause-step
returns-in_default-send-clause-step g c =
    lost_instead c.args.end c.args.number c.args.world.now c.step-in_default-send.new.world (g.Wi.Wire.failed c.args.wire.now) (g.Wi.Wire.failed c.send.new.self) c.lose.result c.step-in_default-send.result c.lose.ensures (rw c.in_default-send.is at c.send.ensures) c.step-in_default-send.ensures

pub returns-in-Some-borne-clause-step : goal.returns-in-Some-borne-clause-step
returns-in-Some-borne-clause-step g c =
    arrives c.args.end c.args.number c.in-Some-borne.number c.args.world.now c.step-in-Some-borne.new.world (g.Wi.Wire.failed c.args.wire.now) (g.Wi.Wire.failed c.recv.new.self) c.deliver-in-Some-borne.result _ c.step-in-Some-borne.result c.deliver-in-Some-borne.ensures (rw c.in-Ok-recv.is at c.recv.ensures.failed ∙ rw c.in-Ok-send.is at c.send.ensures) c.in-Some-borne.ensures.packet c.step-in-Some-borne.ensures
