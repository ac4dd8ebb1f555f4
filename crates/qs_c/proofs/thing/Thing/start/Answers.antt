use Rattle.std.proofs.Common.{sym, ap, ◌∙◌}
use Rattle.qs_machine.specs.Ends.{wide_end_made}
use Rattle.qs_c.specs.Statuses.{is_flag, role_of}
use Rattle.qs_c.specs.Structs.{settings_in, is_tuning, tuning_in, limits_in}
use Rattle.qs_c.proofs.Starting.{starts_of}
use Rattle.qs_c.proofs.thing.Thing.start.Goals as goal

pub returns-in-Ok : goal.returns-in-Ok
returns-in-Ok c =
    let side = c.in-Some.side in
    let chosen = c.in-Some-tuning.chosen in
    starts_of (is_flag c.args.role) (is_tuning c.args.tuning.now) c.args.self.now c.begin.new.self c.in-Ok.made c.begin.result side (role_of c.args.role) chosen (tuning_in c.args.tuning.now)
    (settings_in c.args.settings.now) (limits_in c.args.peer.now)
    (sym c.in-Some.is ∙ c.role_of.ensures)
    (sym c.in-Some-tuning.is ∙ c.tuning.ensures)
    (sym c.in-Ok.is ∙ c.with_tuning.ensures ∙ ap (λ s. wide_end_made side s chosen c.limits.result) c.settings.ensures ∙ ap (λ p. wide_end_made side (settings_in c.args.settings.now) chosen p) c.limits.ensures)
    c.begin.ensures
