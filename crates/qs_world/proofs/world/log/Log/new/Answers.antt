use Rattle.qs_calls.specs.declared.event.Side.TheVariants.{A, B}
use Rattle.qs_world.proofs.Places.{no_places}
use Rattle.qs_world.proofs.world.log.Log.new.Goals as goal

pub invariant_of-result : goal.invariant_of-result
invariant_of-result c = (no_places A _ _ c.new.ensures.items c.new-2.ensures.items, no_places B _ _ c.new.ensures.items c.new-3.ensures.items)
