use Rattle.std.proofs.Common.{rules, codes, ◌≡◌}
use Rattle.std.proofs.lemmas.Result.{IfOk-weaker}
use Rattle.clap.specs.Words.{rule_of}
use Rattle.qs_request.specs.Requests.{named, switch}
use Rattle.qs_request.proofs.Asking.{arg_is}
use Rattle.qs_request.proofs.command_line.play_command.Goals as goal

pub returns : goal.returns
returns c =
    let grant : rule_of c.long.result ≡ named (codes "G") (codes "grant") = search rules in
    let lifetime : rule_of c.long-2.result ≡ named (codes "L") (codes "lifetime") = search rules in
    let drain : rule_of c.action.result ≡ switch (codes "drain") = search rules in
    let first = arg_is _ _ _ _ _ c.in_ok-arg.ensures c.in_ok-script_command.ensures grant (search rules) in
    let both = arg_is _ _ _ _ _ c.in_ok-arg-2.ensures first lifetime (search rules) in
    IfOk-weaker c.arg-3.result _ _ (λ made adds. arg_is _ _ _ _ _ adds both drain (search rules)) c.arg-3.ensures
