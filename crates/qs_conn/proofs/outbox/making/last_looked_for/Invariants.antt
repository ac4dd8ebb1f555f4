use Rattle.std.proofs.Common.{◌≡◌, None, drop}
use Rattle.qs_conn.specs.Filling.{last_data}
use Rattle.qs_conn.proofs.outbox.making.last_looked_for.Given as goal

-- What is so of the pieces that are left is so of all.
abbrev pub invariant-loop-piece : goal.invariant-loop-piece
invariant-loop-piece l = last_data l.last (drop l.piece-index l.pieces) ≡ last_data None l.pieces
