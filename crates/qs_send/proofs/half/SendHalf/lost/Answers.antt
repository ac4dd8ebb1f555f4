use Rattle.std.proofs.Common.{arith, sym}
use Rattle.qs_send.proofs.Runs.{fin-lost}
use Rattle.qs_send.proofs.Steps.{lawful_lost}
use Rattle.qs_send.proofs.half.SendHalf.lost.Goals as goal

pub invariant_of-self-2 : goal.invariant_of-self-2
invariant_of-self-2 c =
    let sent = rw (← c.self.view_is) at c.requires in
    let open_lane = rw (← c.self.view_is) at c.if-was_reset.ensures in
    rw (c.in_ok-lost.ensures.ok, fin-lost c.self.inside.fin_noted c.self.inside.fin_acked c.args.chunk.fin)
    (lawful_lost _ c.args.chunk (sym open_lane) sent c.self.invariant.0, omega (arith, c.in_ok-lost.ensures.room, c.self.invariant.1), rw (← c.in_ok-lost.ensures.room) at c.self.invariant.2)
