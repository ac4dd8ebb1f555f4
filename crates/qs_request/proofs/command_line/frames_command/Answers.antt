use Rattle.std.proofs.Common.{rules, ◌≡◌, codes}
use Rattle.std.proofs.lemmas.Result.{IfOk-weaker}
use Rattle.clap.specs.Words.{rule_of}
use Rattle.qs_request.specs.Requests.{placed}
use Rattle.qs_request.proofs.Asking.{arg_is}
use Rattle.qs_request.proofs.command_line.frames_command.Goals as goal

pub returns : goal.returns
returns c =
    let hex : rule_of c.required.result ≡ placed (codes "HEX") = search rules in
    IfOk-weaker c.arg.result _ _ (λ made adds. arg_is _ _ _ _ _ adds c.new.ensures.app hex (search rules)) c.arg.ensures
