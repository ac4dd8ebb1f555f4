use Rattle.std.proofs.Common.{arith}
use Rattle.qs_streams.proofs.Leasts.{next_none, next_some}
use Rattle.qs_streams.proofs.boards.next_of.Goals as goal

pub overflow_mul-result : goal.overflow_mul-result
overflow_mul-result c = omega (arith, c.in_ok-index.ensures.small)

pub overflow_add-result : goal.overflow_add-result
overflow_add-result c = omega (arith, c.in_ok-index.ensures.small, c.requires.stream_type)

pub returns-in_err-index-clause-least : goal.returns-in_err-index-clause-least
returns-in_err-index-clause-least c = rw c.from_residual.ensures (next_none _ _ _ _ _ c.requires.stream_type c.index_from.ensures c.in_err-index.ensures.next)

pub returns-clause-least : goal.returns-clause-least
returns-clause-least c = next_some _ _ _ _ _ c.requires.stream_type c.index_from.ensures _ c.in_ok-index.ensures.next

pub returns-clause-small : goal.returns-clause-small
returns-clause-small c = omega (arith, c.in_ok-index.ensures.small, c.requires.stream_type)
