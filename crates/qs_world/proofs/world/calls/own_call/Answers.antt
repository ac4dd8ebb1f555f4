use Rattle.qs_world.proofs.world.calls.own_call.Goals as goal

pub returns-in-Write : goal.returns-in-Write
returns-in-Write c = rw c.in-Write.is (rw c.deref.ensures.value at c.write.ensures)
