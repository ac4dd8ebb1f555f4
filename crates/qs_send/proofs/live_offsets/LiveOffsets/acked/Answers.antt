use Rattle.std.proofs.Common.{arith, refl}
use Rattle.qs_send.proofs.Steps.{gone_is, low_moves, low_found, offsets_acked}
use Rattle.qs_send.proofs.Runs.{due-acked}
use Rattle.qs_send.proofs.live_offsets.LiveOffsets.acked.Goals as goal

pub let_go-requires : goal.let_go-requires
let_go-requires c =
    let sent = rw (← c.self.view_is) at c.requires.sent in
    let missing = rw c.in_ok-add.ensures.ok at c.first_missing-low.ensures.missing in
    let moves = low_moves _ _ _ _ _ _ c.self.invariant.acked_sent c.self.invariant.sent_written sent missing in
    omega (arith, moves.1, c.len.ensures, c.saturating_sub.ensures)

pub invariant_of-self-2 : goal.invariant_of-self-2
invariant_of-self-2 c =
    let sent = rw (← c.self.view_is) at c.requires.sent in
    let missing = rw c.in_ok-add.ensures.ok at c.first_missing-low.ensures.missing in
    rw (c.let_go.ensures.bytes, c.saturating_sub.ensures, c.len.ensures, gone_is _ _ c.first_missing-low.result _ c.self.invariant.kept_from, ← low_found _ _ _ _ missing, c.in_ok-add.ensures.ok)
    (offsets_acked _ _ _ _ _ _ _ _ sent c.forget.ensures.fewer c.self.invariant)

pub returns-clause-ok : goal.returns-clause-ok
returns-clause-ok c =
    let missing = rw c.in_ok-add.ensures.ok at c.first_missing-low.ensures.missing in
    rw (← c.self.view_is, c.let_go.ensures.bytes, c.saturating_sub.ensures, c.len.ensures, gone_is _ _ c.first_missing-low.result _ c.self.invariant.kept_from, ← low_found _ _ _ _ missing, c.in_ok-add.ensures.ok, due-acked c.self.inside.noted _ c.self.inside.acked c.args.lo c.args.hi c.forget.ensures.others) refl
