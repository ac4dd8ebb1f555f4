use Rattle.std.proofs.Common.{◌∙◌, arith}
use Rattle.qs_conn.proofs.Marked.{none_least, four_told}
use Rattle.qs_conn.proofs.blocked.BlockedMarks.next_stream.Goals as goal

pub returns-then-not-may_have : goal.returns-then-not-may_have
returns-then-not-may_have c = rw (← c.self.view_is) (none_least c.self.inside.streams 0 (c.may_have.ensures (grind (arith, c.if-not-may_have.true))))

pub returns : goal.returns
returns c =
    rw (c.least_stream.ensures, ← c.self.view_is)
    (four_told c.self.inside.streams 0 _ _ _ _ _ _ _ _ (c.marks.ensures ∙ c.of_type.ensures) (c.marks-2.ensures ∙ c.of_type-2.ensures) (c.marks-3.ensures ∙ c.of_type-3.ensures) (c.marks-4.ensures ∙ c.of_type-4.ensures) c.next_stream.ensures.least c.next_stream-2.ensures.least c.next_stream-3.ensures.least c.next_stream-4.ensures.least)
