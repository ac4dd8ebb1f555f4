use Rattle.qs_conn.proofs.DuePackets.{kind_idle}
use Rattle.qs_conn.proofs.Marked.{found_by, off_before}
use Rattle.qs_conn.specs.Due.{marks_of}
use Rattle.qs_conn.proofs.middle.Core.next_marked.Goals as goal

pub returns-clause-found : goal.returns-clause-found
returns-clause-found c = found_by _ c.args.from c.next.result (rw c.task.ensures at c.next.ensures)

pub returns-clause-idle : goal.returns-clause-idle
returns-clause-idle c = λ n e le before.
    let self = c.args.self.now in
    kind_idle self.limits self.recvs self.outbox e self.due c.requires.core.due n c.args.kind (off_before (marks_of c.args.kind self.due) c.args.from c.next.result (rw c.task.ensures at c.next.ensures) n le before)
