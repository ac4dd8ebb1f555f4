use Rattle.std.proofs.Common.{sym}
use Rattle.qs_world.proofs.JustMade.{made_there, number_fits}
use Rattle.qs_world.proofs.world.World.next_making.Goals as goal

pub returns-in-Some-clause-fits : goal.returns-in-Some-clause-fits
returns-in-Some-clause-fits c = number_fits c.args.end c.in-Some.number c.args.self.now c.in-Some.ensures.agrees (sym c.in-Some.ensures.value)

pub returns-in-Some-clause-there : goal.returns-in-Some-clause-there
returns-in-Some-clause-there c =
    (made_there c.args.end c.in-Some.number c.args.self.now c.in-Some.ensures.agrees (sym c.in-Some.ensures.value)).1
