use Rattle.std.proofs.Common.{sym, ◌∙◌}
use Rattle.qs_conn.specs.declared.send_marks.Task.TheVariants as tasks
use Rattle.qs_conn.proofs.send_marks.SendMarks.look.Goals as goal

pub look_again-requires : goal.look_again-requires
look_again-requires c = λ none. (let (s, marks, still) = rw c.in-Sent.is at c.requires in still.again (sym (marks tasks.Again) ∙ none))

pub look_again-requires-in-Room : goal.look_again-requires-in-Room
look_again-requires-in-Room c = λ none. (let (s, marks, still) = rw c.in-Room.is at c.requires in still.again (sym (marks tasks.Again) ∙ none))

pub look_end-requires : goal.look_end-requires
look_end-requires c = λ unacked. (let (s, marks, still) = rw c.in-Room.is at c.requires in marks tasks.Ended ∙ sym (still.ended unacked))

pub look_may_end-requires : goal.look_may_end-requires
look_may_end-requires c = λ shut. (let (s, marks, still) = rw c.in-End.is at c.requires in marks tasks.Again ∙ sym (still.again shut))
