use Rattle.std.proofs.Common.{rules}
use Rattle.qs_recv.proofs.RestLaws.{let_go_at_rest, sound_at_rest}
use Rattle.qs_recv.proofs.live.LiveHalf.revived.Goals as goal

pub invariant_of-result : goal.invariant_of-result
invariant_of-result g c =
    let same = rw (← c.rest.view_is) at c.assembly_at_rest.ensures.same in
    rw same (search (rules, sound_at_rest, let_go_at_rest))
