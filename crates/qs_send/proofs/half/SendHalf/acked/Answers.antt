use Rattle.std.proofs.Common.{arith}
use Rattle.qs_send.proofs.Around.{freed_acked}
use Rattle.qs_send.proofs.Runs.{fin-acked}
use Rattle.qs_send.proofs.Steps.{lawful_acked}
use Rattle.qs_send.proofs.half.SendHalf.acked.Goals as goal

pub invariant_of-self-2 : goal.invariant_of-self-2
invariant_of-self-2 c =
    let sent = rw (← c.self.view_is) at c.requires in
    let freed = freed_acked _ c.self.inside.fin_acked c.args.chunk.fin _ _ _ _ c.self.invariant.2 c.in_ok-acked.ensures.room c.in_ok-acked.ensures.over in
    rw (c.in_ok-acked.ensures.ok, fin-acked c.self.inside.fin_noted c.self.inside.fin_acked c.args.chunk.fin)
    (lawful_acked _ c.args.chunk sent c.self.invariant.0, omega (arith, c.in_ok-acked.ensures.room, c.self.invariant.1), rw c.in_ok-acked.ensures.ok at freed)
