use Rattle.qs_wire.proofs.PairLaws.{ack_fits, ranges_of_pairs, ranges_fall}
use Rattle.qs_wire.proofs.laws.acks_name_ranges.Goals as goal

pub returns-clause-fits : goal.returns-clause-fits
returns-clause-fits c = ack_fits

pub returns-clause-names : goal.returns-clause-names
returns-clause-names c = ranges_of_pairs

pub returns-clause-fall : goal.returns-clause-fall
returns-clause-fall c = ranges_fall
