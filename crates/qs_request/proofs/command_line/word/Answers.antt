use Rattle.std.proofs.Common.{option_map, ap, ◌∙◌}
use Rattle.clap.specs.Words.{found_of}
use Rattle.qs_request.proofs.Asking.{found_is, no_word, refuses_none}
use Rattle.qs_request.proofs.command_line.word.Goals as goal

pub returns-in-Some-clause-found : goal.returns-in-Some-clause-found
returns-in-Some-clause-found c =
    found_is (found_of c.args.found.now) c.args.name.now c.get_str.result c.get_str.ensures ∙ ap (option_map (λ s. s.now)) c.in-Some.is

pub returns-in-None-clause-refused : goal.returns-in-None-clause-refused
returns-in-None-clause-refused c =
    refuses_none _ c.refused.result (no_word _ (found_is (found_of c.args.found.now) c.args.name.now c.get_str.result c.get_str.ensures ∙ ap (option_map (λ s. s.now)) c.in-None.is))
