use Rattle.qs_script.proofs.PrintedScripts.{printed_scripts_hold}
use Rattle.qs_script.proofs.laws.printed_scripts_parse.Goals as goal

pub returns : goal.returns
returns c = printed_scripts_hold
