use Rattle.std.proofs.Common.{refl}
use Rattle.qs_send.proofs.Steps.{offsets_at_rest}
use Rattle.qs_send.proofs.Runs.{nothing-due}
use Rattle.qs_send.proofs.live_offsets.LiveOffsets.at_rest.Goals as goal

pub invariant_of-result : goal.invariant_of-result
invariant_of-result c = rw (c.new.ensures.bytes, c.below.ensures, c.new-2.ensures) (offsets_at_rest c.args.written c.requires)

pub returns : goal.returns
returns c = rw (c.new.ensures.bytes, c.new.ensures.room, c.below.ensures, c.new-2.ensures, nothing-due _) refl
