use Rattle.std.proofs.Common.{◌≡◌, Option, None, Some, refl, sym, ap, ◌∙◌}
use Rattle.std.specs.Prelude.{option_map}
use Rattle.qs_send.specs.Lane.{Sending}
use Rattle.qs_machine.specs.Sums.{tables_of}
use Rattle.qs_machine.specs.Tables.{lookup}
use Rattle.qs_machine.proofs.LaneTables.{lookup_lanes}
use Rattle.qs_conn.specs.Ended.{send_over}
use Rattle.qs_conn.specs.Marks.{one_has}
use Rattle.qs_conn.specs.Tasks.{has}
use Rattle.qs_conn.specs.declared.send_marks.Task.TheVariants as tasks
use Rattle.qs_conn.proofs.outbox.Outbox.ended_marks.Goals as goal

over_lane : (o : Option Sending) → one_has (has tasks.Ended) o ≡ send_over (option_map (λ (s : Sending). s.lane) o)
over_lane None = refl
over_lane (Some s) = refl

pub returns : goal.returns
returns c n kind = let t = tables_of c.self.inside.types in rw (← c.self.view_is) (c.marks.ensures n kind ∙ over_lane (lookup t n) ∙ ap send_over (sym (lookup_lanes t n)))
