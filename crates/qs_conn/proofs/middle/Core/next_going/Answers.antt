use Rattle.std.proofs.Common.{subst}
use Rattle.std.specs.Option.{IfSome}
use Rattle.qs_conn.specs.Tasks.{HasTaskAt, IsQuietAt}
use Rattle.qs_conn.proofs.Hearing.{goes_found, goes_without}
use Rattle.qs_conn.proofs.middle.Core.next_going.Goals as goal

pub returns-clause-goes : goal.returns-clause-goes
returns-clause-goes c = λ e.
    let self = c.args.self.now in
    goes_found self.limits self.recvs self.outbox e c.next_marked.result (subst (λ k. IfSome c.next_marked.result (HasTaskAt k self.outbox)) c.going_task.ensures c.next_marked.ensures.has)

pub returns-clause-none : goal.returns-clause-none
returns-clause-none c = λ n e le before.
    let self = c.args.self.now in
    goes_without self.limits self.recvs self.outbox e n (subst (λ k. IsQuietAt k self.outbox n) c.going_task.ensures (c.next_marked.ensures.quiet n le before))
