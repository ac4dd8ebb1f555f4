use Rattle.std.proofs.Common.{◌≡◌, length, arith}
use Rattle.qs_runs.specs.Worlds.{World}
use Rattle.qs_world.proofs.LaneLists.{index_more, lanes_end}
use Rattle.qs_world.proofs.reporting.all_lanes.Goals as goal

pub returns-then-len-before : goal.returns-then-len-before
returns-then-len-before c =
    let w : World = record { a = c.args.a.now; b = c.args.b.now } in
    let same : length c.push_index.new.lanes.items ≡ length c.loop-index.lanes.items = omega arith in
    lanes_end w c.loop-index.lanes.items c.push_index.new.lanes.items c.loop-index.index c.loop-index.invariant c.in_ok-push_index.ensures same

pub loop-index-preserved : goal.loop-index-preserved
loop-index-preserved c =
    let w : World = record { a = c.args.a.now; b = c.args.b.now } in
    index_more w c.loop-index.lanes.items c.push_index.new.lanes.items c.loop-index.index c.loop-index.invariant c.in_ok-push_index.ensures
