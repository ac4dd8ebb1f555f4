use Rattle.std.proofs.Common.{◌≡◌, sym}
use Rattle.qs_cli.proofs.Answered.{answered_report, answered_fault}
use Rattle.qs_cli.proofs.scripts.show_played.Goals as goal

pub returns-in-Ok : goal.returns-in-Ok
returns-in-Ok g c =
    answered_report (λ r. r ≡ c.args.played) _ c.show_report-status.result c.in-Ok.report _ _ (sym c.in-Ok.is) c.show_report-status.ensures c.written.ensures

pub returns-in-Err : goal.returns-in-Err
returns-in-Err g c =
    answered_fault (λ r. r ≡ c.args.played) c.show_play_fault.result c.in-Err.fault _ _ (sym c.in-Err.is) c.show_play_fault.ensures
