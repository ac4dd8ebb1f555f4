use Rattle.qs_recv.proofs.RestLaws.{came_at_rest, end_at_rest}
use Rattle.qs_recv.proofs.live.LiveHalf.assembly_at_rest.Goals as goal

pub at_rest-requires-clause-in_range : goal.at_rest-requires-clause-in_range
at_rest-requires-clause-in_range g c = end_at_rest _ _ _ _ _ _ _ _ c.rest.invariant

pub at_rest-requires-clause-came : goal.at_rest-requires-clause-came
at_rest-requires-clause-came g c = came_at_rest _ _ _ _ _ _ _ _ c.rest.invariant
