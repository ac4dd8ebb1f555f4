use Rattle.qs_progress.proofs.Wide.{rounds_leave_widths}
use Rattle.qs_progress.proofs.laws.rounds_leave_widths.Goals as goal

pub returns : goal.returns
returns c = rounds_leave_widths
