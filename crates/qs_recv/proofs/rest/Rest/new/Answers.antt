use Rattle.qs_recv.proofs.RestLaws.{at_rest_new, new_at_rest}
use Rattle.qs_recv.proofs.rest.Rest.new.Goals as goal

pub invariant_of-result : goal.invariant_of-result
invariant_of-result c = at_rest_new c.args.window c.args.share c.requires.some c.requires.small

pub returns : goal.returns
returns c = new_at_rest c.args.window c.args.share
