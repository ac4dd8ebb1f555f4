use Rattle.qs_conn.specs.Middle.{end_of}
use Rattle.qs_conn.proofs.Untolds.{idle_covered}
use Rattle.qs_conn.proofs.Owns.{told_covered, told_uncovered}
use Rattle.qs_conn.proofs.middle.Core.due_in.Goals as goal

pub returns-then-is_told-clause-due : goal.returns-then-is_told-clause-due
returns-then-is_told-clause-due c = λ e.
    let self = c.args.self.now in
    let current = c.in_ok-item.ensures.current e in
    idle_covered (end_of self e) c.args.slot c.in_ok-item.item current (told_covered self.limits self.recvs self.outbox e self.own self.due c.requires.core.own c.requires.core.due c.in_ok-item.item c.is_told.result c.is_told.ensures.told c.is_told.ensures.acked current.0 c.if-is_told.true)

pub returns-clause-due : goal.returns-clause-due
returns-clause-due c = λ e.
    let self = c.args.self.now in
    let current = c.in_ok-item.ensures.current e in
    (current, told_uncovered self.limits self.recvs self.outbox e self.own self.due c.requires.core.own c.requires.core.due c.in_ok-item.item c.is_told.result c.is_told.ensures.told c.is_told.ensures.acked c.args.slot current.1 c.requires.marked current.0 c.if-is_told.false)
