use Rattle.std.proofs.Common.{rules, ◌≡◌, codes}
use Rattle.std.proofs.lemmas.Result.{IfOk-weaker}
use Rattle.clap.specs.Words.{rule_of}
use Rattle.qs_request.specs.Requests.{named, placed}
use Rattle.qs_request.proofs.Asking.{arg_is}
use Rattle.qs_request.proofs.command_line.script_command.Goals as goal

pub returns : goal.returns
returns c =
    let file : rule_of c.required.result ≡ placed (codes "FILE") = search rules in
    let traces : rule_of c.long.result ≡ named (codes "OUT") (codes "qlog") = search rules in
    let first = arg_is _ _ _ _ _ c.in_ok-arg.ensures c.new.ensures.app file (search rules) in
    IfOk-weaker c.arg-2.result _ _ (λ made adds. arg_is _ _ _ _ _ adds first traces (search rules)) c.arg-2.ensures
