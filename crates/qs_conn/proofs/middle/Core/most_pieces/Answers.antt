use Rattle.std.proofs.Common.{arith, inl, inr}
use Rattle.qs_conn.proofs.middle.Core.most_pieces.Goals as goal

pub returns-then-is_still : goal.returns-then-is_still
returns-then-is_still c = inr (omega arith, c.is_still.ensures c.if-is_still.true)

pub returns-else-is_still : goal.returns-else-is_still
returns-else-is_still c = inl (omega arith)
