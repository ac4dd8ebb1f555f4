use Rattle.std.proofs.Common.{refl}
use Rattle.qs_ranges.proofs.Sets.{AllBelow-more}
use Rattle.qs_send.proofs.Steps.{offsets_written}
use Rattle.qs_send.proofs.Runs.{due-write}
use Rattle.qs_send.proofs.live_offsets.LiveOffsets.write.Goals as goal

pub invariant_of-self-2 : goal.invariant_of-self-2
invariant_of-self-2 c =
    let from = rw (← c.self.view_is) at c.requires.from in
    let small = rw (← c.self.view_is) at c.requires.small in
    rw (c.in_ok-append.ensures.ok, c.in_default.ensures.ok) (offsets_written _ _ _ _ _ _ from small c.self.invariant)

pub returns-clause-ok : goal.returns-clause-ok
returns-clause-ok c =
    let below = AllBelow-more _ _ _ c.self.invariant.acked_sent c.self.invariant.sent_written in
    rw (← c.self.view_is, c.in_ok-append.ensures.ok, c.in_default.ensures.ok, due-write c.self.inside.noted c.self.inside.acked c.self.inside.written _ below) refl
