use Rattle.std.proofs.Common.{◌++◌, option_to_list, ◌∙◌}
use Rattle.qs_calls.specs.declared.event.Side.TheVariants.{A, B}
use Rattle.qs_world.specs.LaneLists.{asked_lane}
use Rattle.qs_world.proofs.LaneLists.{stream_told}
use Rattle.qs_world.proofs.reporting.push_stream.Goals as goal

pub returns : goal.returns
returns c =
    let of_a = c.lane_of.ensures ∙ (λ j. asked_lane A c.args.stream (c.sending.ensures j) (c.receiving.ensures j)) in
    let of_b = c.lane_of-2.ensures ∙ (λ j. asked_lane B c.args.stream (c.sending-2.ensures j) (c.receiving-2.ensures j)) in
    stream_told (record { a = c.args.a.now; b = c.args.b.now }) c.args.stream c.args.lanes.now.items c.push_lane.new.lanes.items c.push_lane-2.new.lanes.items
    c.lane_report-at_a.result c.lane_report-at_b.result c.lane_report-at_a.ensures.report c.lane_report-at_b.ensures.report
    (c.in_ok-push_lane.ensures ∙ (λ j. c.args.lanes.now.items ++ option_to_list (of_a j)))
    (c.in_ok-push_lane-2.ensures ∙ (λ j. c.push_lane.new.lanes.items ++ option_to_list (of_b j)))
