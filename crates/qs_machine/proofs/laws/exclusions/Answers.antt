use Rattle.qs_machine.proofs.ExclusionsMaking.{not_due, not_made, not_filled, starved}
use Rattle.qs_machine.proofs.ExclusionsReceiving.{not_received, not_refused, not_alone}
use Rattle.qs_machine.proofs.ExclusionsOwner.{not_owned, not_found, not_asked, not_heard}
use Rattle.qs_machine.proofs.ExclusionsOwning.{not_owned_so}
use Rattle.qs_machine.proofs.laws.exclusions.Goals as goal

pub returns : goal.returns
returns c = record { due = not_due; making = not_made; filling = not_filled; order = starved; receiving = not_received; owner = not_owned; alone = not_alone; news = not_found; asking = not_asked; memory = not_refused; heard = not_heard; owning = not_owned_so }
