use Rattle.std.proofs.Common.{refl, rules}
use Rattle.qs_ranges.proofs.Edits.{on_err}
use Rattle.qs_send.proofs.Steps.{offsets_lost}
use Rattle.qs_send.proofs.Runs.{due-lost, due_misses}
use Rattle.qs_send.proofs.live_offsets.LiveOffsets.lost.Goals as goal

pub invariant_of-self-2 : goal.invariant_of-self-2
invariant_of-self-2 c =
    let sent = rw (← c.self.view_is) at c.requires.sent in
    rw c.in_ok-add.ensures.ok (offsets_lost _ _ _ _ _ _ _ sent c.self.invariant)

pub returns-clause-ok : goal.returns-clause-ok
returns-clause-ok c = rw (← c.self.view_is, c.in_ok-add.ensures.ok, due-lost c.self.inside.noted c.self.inside.acked c.args.lo c.args.hi) refl

pub returns-in_err-add-clause-grows : goal.returns-in_err-add-clause-grows
returns-in_err-add-clause-grows c = search (rules, due_misses, on_err)
