use Rattle.qs_wire.specs.Grammar.{canonical_all}
use Rattle.qs_wire.proofs.PayloadLaws.{canonical_payload, payload_again}
use Rattle.qs_wire.proofs.laws.canonical_reads_back.Goals as goal

pub returns-clause-no_fault : goal.returns-clause-no_fault
returns-clause-no_fault c = λ frames some fits. (payload_again frames (canonical_all frames) (canonical_payload frames some fits)).1

pub returns-clause-same : goal.returns-clause-same
returns-clause-same c = λ frames some fits. (payload_again frames (canonical_all frames) (canonical_payload frames some fits)).0
