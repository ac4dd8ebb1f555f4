use Rattle.std.proofs.Common.{rules}
use Rattle.qs_send.proofs.Steps.{held_by, held_needs, nothing_held}
use Rattle.qs_send.proofs.half.SendHalf.is_held_by_room.Goals as goal

pub returns-in-Some : goal.returns-in-Some
returns-in-Some c = search (rules, held_by, held_needs, c.in-Some.ensures.found, c.frame_len.ensures.exact, c.learn_lawful.ensures)

pub returns-in-None : goal.returns-in-None
returns-in-None c = (
  λ no. absurd (cc),
  λ held. absurd (nothing_held _ _ _ c.learn_lawful.ensures c.in-None.ensures.none held),
)
