use Rattle.std.proofs.Common.{rules, ◌≡◌, codes}
use Rattle.std.proofs.lemmas.Result.{IfOk-weaker}
use Rattle.clap.specs.Words.{rule_of}
use Rattle.qs_request.specs.Requests.{placed}
use Rattle.qs_request.proofs.Asking.{arg_is}
use Rattle.qs_request.proofs.command_line.random_command.Goals as goal

pub returns : goal.returns
returns c =
    let seed : rule_of c.required.result ≡ placed (codes "SEED") = search rules in
    let count : rule_of c.required-2.result ≡ placed (codes "N") = search rules in
    let first = arg_is _ _ _ _ _ c.in_ok-arg.ensures c.new.ensures.app seed (search rules) in
    IfOk-weaker c.arg-2.result _ _ (λ made adds. arg_is _ _ _ _ _ adds first count (search rules)) c.arg-2.ensures
