use Rattle.std.proofs.Common.{◌++◌, ◌*◌, ◌∙◌, ap}
use Rattle.qs_world.specs.LaneLists.{lanes_of}
use Rattle.qs_runs.specs.Worlds.{World}
use Rattle.qs_world.proofs.LaneLists.{lanes_more}
use Rattle.qs_world.proofs.reporting.push_index.Goals as goal

pub loop-kind-preserved : goal.loop-kind-preserved
loop-kind-preserved c =
    let w : World = record { a = c.args.a.now; b = c.args.b.now } in
    let id = rw c.unwrap-stream.ensures at c.new.ensures.some in
    lanes_more w c.args.lanes.now.items c.loop-kind.lanes.items c.push_stream.new.lanes.items (c.args.index * 4) c.loop-kind.kind c.loop-kind.invariant
    (c.in_ok-push_stream.ensures ∙ ap (λ x. c.loop-kind.lanes.items ++ lanes_of w x) id.0)
