use Rattle.std.proofs.Common.{◌-◌, ◌+◌, ◌^◌}
use Rattle.qs_ranges.specs.Numbers.{ContainsRange}
use Rattle.qs_ranges.proofs.Edits.{dropped}
use Rattle.qs_ranges.proofs.RangeSet.drop_below.Goals as goal

pub returns : goal.returns
returns c = dropped c.remove-never.result c.args.self.now c.remove-never.new.self c.args.n (2 ^ 62) c.min.result (ContainsRange c.args.self.now (0 - 1) (c.min.result + 1)) c.min.ensures c.learn_members_fit.ensures c.remove-never.ensures.ok c.remove-never.ensures.inside
