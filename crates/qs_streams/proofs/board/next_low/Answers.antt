use Rattle.std.proofs.Common.{refl, arith}
use Rattle.qs_streams.proofs.Flags.{has_within}
use Rattle.qs_streams.proofs.board.next_low.Goals as goal

pub overflow_cast-result : goal.overflow_cast-result
overflow_cast-result c = omega (arith, c.requires.few, has_within _ _ _ (c.in-Some.ensures.found c.in-Some.place refl).1)
