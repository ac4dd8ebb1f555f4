use Rattle.qs_conn.proofs.outbox.Outbox.first_kept.Goals as goal

pub returns-then-packet : goal.returns-then-packet
returns-then-packet c = rw (c.if-packet.true, ← c.self.view_is) c.first.ensures

pub returns : goal.returns
returns c = rw c.if-packet.false c.first-2.ensures
