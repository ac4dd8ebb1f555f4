use Rattle.std.proofs.Common.{refl}
use Rattle.std.proofs.lemmas.Result.{IfOk-weaker}
use Rattle.qs_request.proofs.Asking.{needs_subcommand, subcommand_is, versioned}
use Rattle.qs_request.proofs.command_line.command.Goals as goal

pub returns : goal.returns
returns c =
    let top = needs_subcommand _ _ _ c.subcommand_required.ensures (versioned _ _ _ _ c.version.ensures c.new.ensures.app) in
    let frames = subcommand_is _ _ _ _ _ c.in_ok-subcommand.ensures top c.in_ok-frames_command.ensures refl in
    let play = subcommand_is _ _ _ _ _ c.in_ok-subcommand-2.ensures frames c.in_ok-play_command.ensures refl in
    let udp = subcommand_is _ _ _ _ _ c.in_ok-subcommand-3.ensures play c.in_ok-script_command.ensures refl in
    IfOk-weaker c.subcommand-4.result _ _ (λ made adds. subcommand_is _ _ _ _ _ adds udp c.in_ok-random_command.ensures refl) c.subcommand-4.ensures
