use Rattle.std.proofs.Common.{refl}
use Rattle.qs_conn.specs.Sending.{MayWrite}
use Rattle.qs_conn.specs.Tasks.{HasTask}
use Rattle.qs_conn.specs.declared.send_marks.Task.TheVariants as tasks
use Rattle.qs_conn.proofs.Hearing.{lanes_least}
use Rattle.qs_machine.specs.Sums.{tables_of}
use Rattle.qs_conn.proofs.outbox.Outbox.next_writable.Goals as goal

pub returns : goal.returns
returns c = lanes_least (λ n. HasTask tasks.Writable) (λ n. MayWrite) _ c.args.self.now (tables_of c.self.inside.types) c.args.from c.next_with.result c.self.view_is refl (λ n s is at h. h) (λ n s at h. h) c.next_with.ensures
