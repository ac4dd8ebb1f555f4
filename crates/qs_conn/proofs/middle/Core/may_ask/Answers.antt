use Rattle.std.proofs.Common.{◌≡◌, Option, None, Some, false, true, refl, sym, ◌∙◌}
use Rattle.qs_conn.proofs.Places.{idle_if_none}
use Rattle.qs_conn.specs.Middle.{end_of}
use Rattle.qs_conn.proofs.middle.Core.may_ask.Goals as goal

pub returns : goal.returns
returns c = λ off e. idle_if_none (end_of c.args.self.now e) c.args.slot c.due_in.result (sym c.is_some.ensures ∙ off) (c.due_in.ensures.due e)
