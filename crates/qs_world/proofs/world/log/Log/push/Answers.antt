use Rattle.std.proofs.Common.{rules}
use Rattle.qs_calls.specs.declared.event.Side.TheVariants.{A, B}
use Rattle.qs_world.proofs.Places.{kept_by}
use Rattle.qs_world.proofs.world.log.Log.push.Goals as goal

pub invariant_of-self : goal.invariant_of-self
invariant_of-self c = (
  kept_by A _ _ _ _ _ _ _ _ c.self.invariant.0 c.add.ensures c.note.ensures c.makes-by_a.ensures (search rules),
  kept_by B _ _ _ _ _ _ _ _ c.self.invariant.1 c.add.ensures c.note-2.ensures c.makes-by_b.ensures (search rules),
)
