use Rattle.std.proofs.Common.{◌≡◌, length, arith}
use Rattle.qs_conn.proofs.LaneEdits.{one_opened, wider}
use Rattle.qs_conn.proofs.recv_lanes.RecvLanes.open_next.Goals as goal

pub invariant_of-self-2 : goal.invariant_of-self-2
invariant_of-self-2 c =
    let at : c.len-index.result ≡ length c.self.inside.halves.items = omega (arith, c.len-index.ensures) in
    rw (c.in_ok-push.ensures.items, c.in_ok-fresh.ensures)
    (one_opened c.self.inside.halves.items _ _ _ c.args.window c.args.share c.len-index.result at c.requires.some c.requires.small (rw (at, c.self.view_is) c.requires.few) (c.in_ok-make_room.ensures.ok (omega (arith, at, c.self.invariant.room)))
    (λ k. c.in_ok-make_room-2.ensures.ok k (omega (arith, at, (c.self.invariant.noted k).room)))
    (wider _ _ c.self.inside.rising _ c.self.inside.news _ c.make_room.ensures.wider c.make_room-2.ensures.wider c.self.invariant))
