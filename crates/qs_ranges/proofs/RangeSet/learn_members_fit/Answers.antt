use Rattle.std.proofs.Common.{◌^◌}
use Rattle.qs_ranges.specs.Blocks.{runs_of}
use Rattle.qs_ranges.proofs.Edits.{AllBelow-set_of}
use Rattle.qs_ranges.proofs.RangeSet.learn_members_fit.Goals as goal

pub returns : goal.returns
returns c = rw (← c.self.view_is) (AllBelow-set_of (2 ^ 62) (runs_of c.self.inside.blocks.items c.self.inside.few) c.self.invariant.1)
