use Rattle.std.proofs.Common.{subst}
use Rattle.qs_conn.specs.Tasks.{HasTaskAt, IsQuietAt}
use Rattle.qs_conn.proofs.Hearing.{goes_with, goes_without}
use Rattle.qs_conn.proofs.MadePackets.{tells_of}
use Rattle.qs_conn.proofs.middle.Core.goes.Goals as goal

pub returns : goal.returns
returns c = λ e.
    let self = c.args.self.now in
    let n = c.args.stream in
    tells_of c.has.result _ (λ on. goes_with self.limits self.recvs self.outbox e n (subst (λ k. HasTaskAt k self.outbox n) c.going_task.ensures (c.has.ensures.yes on)))
    (λ off. goes_without self.limits self.recvs self.outbox e n (subst (λ k. IsQuietAt k self.outbox n) c.going_task.ensures (c.has.ensures.no off)))
