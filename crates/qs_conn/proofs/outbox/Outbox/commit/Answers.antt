use Rattle.std.proofs.Common.{◌+◌, nat_lt}
use Rattle.qs_conn.proofs.Flows.{box_committed, idle_committed}
use Rattle.qs_conn.proofs.outbox.Outbox.commit.Goals as goal

pub invariant_of-self : goal.invariant_of-self
invariant_of-self c = (
  box_committed _ _ _ _ _ _ _ _ _ _ _ _ c.self.invariant.0 c.put_pieces.ensures.kept c.put_pieces.ensures.left,
  c.self.invariant.1,
  c.self.invariant.2,
)

pub returns-clause-idle : goal.returns-clause-idle
returns-clause-idle c =
    let held = box_committed _ _ c.put_pieces.new.records.pieces _ (nat_lt (c.self.inside.next + 1) c.put_pieces.new.records.room) _ c.put_pieces.new.pending.items _ _ _ _ 0 c.self.invariant.0 c.put_pieces.ensures.kept c.put_pieces.ensures.left in
    idle_committed _ _ _ _ _ _ _ held c.put_pieces.ensures.left
