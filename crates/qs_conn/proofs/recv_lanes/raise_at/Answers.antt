use Rattle.std.proofs.Common.{◌+◌, ◌*◌, ◌∙◌, arith, sym}
use Rattle.qs_recv.specs.Lane.{raise}
use Rattle.qs_conn.proofs.LaneEdits.{changed_at, id_is}
use Rattle.qs_conn.proofs.DuePackets.{limit_rose, limit_stayed, lane_at}
use Rattle.qs_conn.proofs.recv_lanes.raise_at.Goals as goal

pub returns-in-Some-clause-marked : goal.returns-in-Some-clause-marked
returns-in-Some-clause-marked c =
    let n = c.unwrap-stream.result in
    let is = id_is c.new.result n (c.args.index * 4 + c.args.stream_type) c.unwrap-stream.ensures c.new.ensures.some in
    limit_rose c.args.stream_type c.args.halves.now.items _ c.args.index n c.index_mut-half.result.now (changed_at c.args.halves.now.items c.args.index _ _ raise c.requires.there c.index_mut-half.ensures.value c.raise.ensures.after) (omega (arith, is, c.requires.stream_type)) (omega (arith, is, c.requires.stream_type))
    (lane_at c.args.halves.now.items c.args.index c.index_mut-half.result.now c.requires.there c.index_mut-half.ensures.value) c.args.limits.now c.in-Some._limit _ (sym c.raise.ensures.answer ∙ c.in-Some.is) c.set.ensures

pub returns-in_default-clause-marked : goal.returns-in_default-clause-marked
returns-in_default-clause-marked c =
    let n = c.args.index * 4 + c.args.stream_type in
    limit_stayed c.args.stream_type c.args.halves.now.items _ c.args.index n c.index_mut-half.result.now (changed_at c.args.halves.now.items c.args.index _ _ raise c.requires.there c.index_mut-half.ensures.value c.raise.ensures.after) (omega (arith, c.requires.stream_type)) (omega (arith, c.requires.stream_type))
    (lane_at c.args.halves.now.items c.args.index c.index_mut-half.result.now c.requires.there c.index_mut-half.ensures.value) c.args.limits.now (λ v is. c.in_default.not-Some v (c.raise.ensures.answer ∙ is))
