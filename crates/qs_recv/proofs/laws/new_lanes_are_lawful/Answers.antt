use Rattle.qs_recv.proofs.LawfulLaws.{lawful_new}
use Rattle.qs_recv.proofs.laws.new_lanes_are_lawful.Goals as goal

pub returns : goal.returns
returns c = λ window share some small. lawful_new window share some small
