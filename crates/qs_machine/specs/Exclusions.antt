-- Of laws.
-- What the definitions exclude: beside each example of what a step gives, one of what it doesn't.
use Rattle.qs_machine.specs.ExclusionsDue.{NotDue}
use Rattle.qs_machine.specs.ExclusionsMaking.{NotMade}
use Rattle.qs_machine.specs.ExclusionsFilling.{NotFilled}
use Rattle.qs_machine.specs.ExclusionsInOrder.{NothingIsStarved}
use Rattle.qs_machine.specs.ExclusionsReceiving.{NotReceived}
use Rattle.qs_machine.specs.ExclusionsMemory.{NotRefused}
use Rattle.qs_machine.specs.ExclusionsOwner.{NotOwned}
use Rattle.qs_machine.specs.ExclusionsAlone.{NotAlone}
use Rattle.qs_machine.specs.ExclusionsNews.{NotFound}
use Rattle.qs_machine.specs.ExclusionsAsking.{NotAsked}
use Rattle.qs_machine.specs.ExclusionsHeard.{NotHeard}
use Rattle.qs_machine.specs.ExclusionsOwning.{NotOwnedSo}

pub record Exclusions : Type 0 where
  pub due : NotDue
  pub making : NotMade
  pub filling : NotFilled
  pub order : NothingIsStarved
  pub receiving : NotReceived
  pub owner : NotOwned
  pub alone : NotAlone
  pub memory : NotRefused
  pub news : NotFound
  pub asking : NotAsked
  pub heard : NotHeard
  pub owning : NotOwnedSo
