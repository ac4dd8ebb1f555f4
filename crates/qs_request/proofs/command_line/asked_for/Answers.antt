use Rattle.std.proofs.Common.{codes}
use Rattle.clap.proofs.TakesLemmas.{passed_up}
use Rattle.clap.specs.Words.{found_of}
use Rattle.qs_request.proofs.Asking.{found_is, no_settings, settings_asked, is_switch}
use Rattle.qs_request.proofs.command_line.asked_for.Goals as goal

pub returns-in_err-settings-in-play-clause-refused : goal.returns-in_err-settings-in-play-clause-refused
returns-in_err-settings-in-play-clause-refused c =
    passed_up c.from_residual-in_err-settings-in-play.result c.in_err-settings-in-play.field-0.0 _ c.from_residual-in_err-settings-in-play.ensures.1
    (no_settings (found_of c.args.found.now) c.get_str.result c.get_str-in-play.result c.args.name.now _ c.get_str.ensures c.get_str-in-play.ensures c.in-play.is c.in_err-settings-in-play.ensures.refused)

pub returns-in_ok-word-in-play-clause-asked : goal.returns-in_ok-word-in-play-clause-asked
returns-in_ok-word-in-play-clause-asked c =
    let found = found_of c.args.found.now in (
      c.in-play.is,
      c.in_ok-word-in-play.ensures.found,
      settings_asked found c.get_str.result c.get_str-in-play.result c.in_ok-settings-in-play.settings c.get_str.ensures c.get_str-in-play.ensures c.in_ok-settings-in-play.ensures.asked,
      is_switch found (codes "drain") c.get_flag.result c.get_flag.ensures.value c.get_flag.ensures.other,
      found_is found (codes "OUT") c.get_str-in-play-2.result c.get_str-in-play-2.ensures,
    )

pub returns-in_ok-word-in-udp-clause-asked : goal.returns-in_ok-word-in-udp-clause-asked
returns-in_ok-word-in-udp-clause-asked c =
    (c.in-udp.is, c.in_ok-word-in-udp.ensures.found, found_is (found_of c.args.found.now) (codes "OUT") c.get_str-in-udp.result c.get_str-in-udp.ensures)
