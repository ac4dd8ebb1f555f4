use Rattle.std.proofs.Common.{rules, Result, Ok, Err, ◌≡◌, ap, ◌∙◌}
use Rattle.qs_calls.specs.Settings.{limits_of}
use Rattle.qs_wire.specs.declared.stream_id.Role.TheVariants.{Client, Server}
use Rattle.qs_calls.specs.declared.settings.SetupFault.{SetupFault}
use Rattle.qs_machine.specs.Ends.{End, end_made}
use Rattle.qs_runs.specs.Events.{world_made}
use Rattle.qs_runs.specs.Worlds.{both_made}
use Rattle.qs_world.specs.Plays.{begun}
use Rattle.qs_world.proofs.OneMore.{agreed_new}
use Rattle.qs_world.proofs.world.World.new.Goals as goal

pub invariant_of-result : goal.invariant_of-result
invariant_of-result c =
    agreed_new c.args.a c.args.b _ _ _ _ _ c.limits.ensures c.limits-2.ensures c.in_ok-client.ensures c.in_ok-server.ensures c.new-3.ensures

-- where the server is refused, the world is
refused : (x y : Result End SetupFault) (e : End) (f : SetupFault) → Ok e ≡ x → Err f ≡ y → Err f ≡ begun (both_made x y)
refused x y e f is fault = ap (λ r. begun (both_made (Ok e) r)) fault ∙ ap (λ r. begun (both_made r y)) is

pub returns-in_err-server : goal.returns-in_err-server
returns-in_err-server c =
    let client : Ok c.in_ok-client.client ≡ end_made Client c.args.a (limits_of c.args.b) = c.in_ok-client.ensures ∙ ap (end_made Client c.args.a) c.limits.ensures in
    let server : Err c.in_err-server.field-0.0 ≡ end_made Server c.args.b (limits_of c.args.a) = c.in_err-server.ensures ∙ ap (end_made Server c.args.b) c.limits-2.ensures in
    let is : Err c.in_err-server.field-0.0 ≡ begun (world_made c.args.a c.args.b) = refused _ _ _ _ client server in
    record { made = search (rules, is, c.from_residual-in_err-server.ensures) }
