use Rattle.qs_wire.proofs.FaultAgain.{bytes_fit, fault_read, one_fault, no_text}
use Rattle.qs_wire.proofs.laws.faults_are_read.Goals as goal

pub returns-clause-read : goal.returns-clause-read
returns-clause-read c = λ payload left fault bytes h. fault_read payload left fault (bytes_fit payload bytes) h

pub returns-clause-one : goal.returns-clause-one
returns-clause-one c = λ payload left others fault other bytes h k. one_fault payload left others fault other (bytes_fit payload bytes) h k

pub returns-clause-no_text : goal.returns-clause-no_text
returns-clause-no_text c = λ payload frames left fault bytes h k. no_text payload frames left fault (bytes_fit payload bytes) h k
