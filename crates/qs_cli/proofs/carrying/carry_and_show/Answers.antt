use Rattle.std.proofs.Common.{◌≡◌, ◌-◌, ap, ◌∙◌}
use Rattle.qs_cli.proofs.Carried.{answered_world, answered_missing}
use Rattle.qs_cli.proofs.carrying.carry_and_show.Goals as goal

pub returns-in-Ok : goal.returns-in-Ok
returns-in-Ok g c =
    let now = c.failures.ensures in
    let before = c.failures-before.ensures in
    let rise : c.failures.result - c.failures-before.result ≡ (g.Wi.Wire.failed c.carry_events.new.wire).calls - (g.Wi.Wire.failed c.args.wire.now).calls =
    ap (λ n. n - c.failures-before.result) now ∙ ap (λ n. (g.Wi.Wire.failed c.carry_events.new.wire).calls - n) before in
    answered_world c.show_world.result c.args.events.now c.carry_events.new.world _ _ _ c.in-Ok.strangers _ _ c.in-Ok.ensures.carried rise c.show_world.ensures

pub returns-in-Err-NoSuchPacket : goal.returns-in-Err-NoSuchPacket
returns-in-Err-NoSuchPacket g c =
    answered_missing c.show_missing.result c.args.events.now c.carry_events.new.world c.in-Err-NoSuchPacket.event _ _ _ _
    (rw c.in-Err-NoSuchPacket.field-0-is at c.in-Err-NoSuchPacket.ensures.carried) c.show_missing.ensures
