use Rattle.std.proofs.Common.{rules}
use Rattle.qs_send.proofs.Steps.{lawful_reset}
use Rattle.qs_send.proofs.half.SendHalf.reset.Goals as goal

pub invariant_of-self : goal.invariant_of-self
invariant_of-self c = rw (c.some-self-inside.ensures, c.let_all_go.ensures.parts) (search (rules, lawful_reset, c.let_all_go.ensures.room, c.some-self-inside.ensures, c.let_all_go.ensures.parts, c.self.invariant.0))
