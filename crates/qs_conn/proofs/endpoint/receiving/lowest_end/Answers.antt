use Rattle.std.proofs.Common.{rules}
use Rattle.qs_ranges.proofs.Sets.{missing_from-of}
use Rattle.qs_machine.specs.Recording.{lowest_end}
use Rattle.qs_conn.proofs.endpoint.receiving.lowest_end.Goals as goal

pub returns : goal.returns
unfolding lowest_end
returns c = search (rules, missing_from-of)
