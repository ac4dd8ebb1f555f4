use Rattle.std.proofs.Common.{sym, ◌∙◌}
use Rattle.qs_wire.specs.Reading.{view_placed}
use Rattle.qs_conn.proofs.Asked.{takes_on, full_on, within_on, turns_on, turns_stop, stops_within}
use Rattle.qs_machine.specs.Seen.{seen}
use Rattle.qs_wire.specs.Layout.{view}
use Rattle.qs_conn.proofs.endpoint.Endpoint.take_payload.Goals as goal

-- a STREAM frame, read as one

pub loop-placed-preserved-in-GoesOn : goal.loop-placed-preserved-in-GoesOn
loop-placed-preserved-in-GoesOn g c =
    let p = view_placed c.in-Some.placed in
    let is = c.in-Some.ensures.step in
    let from = c.loop-placed.self in
    let to = c.take_placed.new.self in
    record {
      onward = λ result new h. c.loop-placed.invariant.onward result new (takes_on c.args.number p c.loop-placed.asks c.in-GoesOn.asks_ack c.loop-placed.frames c.next_stream.new.self from to new result is c.in-GoesOn.ensures.step h);
      full = full_on p c.in-GoesOn.asks_ack from to c.in-GoesOn.ensures.step c.loop-placed.invariant.full;
      told = λ new t within h. c.loop-placed.invariant.told new t (within_on p c.in-GoesOn.asks_ack from to new c.in-GoesOn.ensures.step c.loop-placed.invariant.full within)
          (turns_on g.T.Told.tells p c.in-GoesOn.asks_ack c.loop-placed.frames c.next_stream.new.self from to new c.loop-placed.told c.take_placed.new.told t is c.in-GoesOn.ensures.step c.loop-placed.invariant.full within c.take_placed.ensures.told h);
    }

pub returns-in-Ends-clause-told : goal.returns-in-Ends-clause-told
returns-in-Ends-clause-told g c =
    let p = view_placed c.in-Some.placed in
    c.loop-placed.invariant.told c.take_placed.new.self c.take_placed.new.told (stops_within p (seen (view c.in-Some.placed.frame)) c.loop-placed.self c.in-Ends.result c.take_placed.new.self c.loop-placed.invariant.full c.in-Ends.ensures.step)
    (turns_stop g.T.Told.tells p c.loop-placed.frames c.next_stream.new.self c.loop-placed.self c.take_placed.new.self c.in-Ends.result c.loop-placed.told c.take_placed.new.told c.in-Some.ensures.step c.in-Ends.ensures.step c.loop-placed.invariant.full
    c.take_placed.ensures.told)

-- any frame

pub loop-placed-preserved : goal.loop-placed-preserved
loop-placed-preserved g c =
    let p = view_placed c.in-Ok-Some.placed in
    let is = sym c.in_default.ensures.same ∙ (rw c.in-Ok-Some.field-0-is at c.in-Ok-Some.ensures.step) in
    let from = c.loop-placed.self in
    let to = c.take_placed-in-Ok-Some.new.self in
    let step = c.in-GoesOn-take_placed.ensures.step in
    record {
      onward = λ result new h. c.loop-placed.invariant.onward result new (takes_on c.args.number p c.loop-placed.asks c.in-GoesOn-take_placed.asks_ack c.loop-placed.frames c.next.new.self from to new result is step h);
      full = full_on p c.in-GoesOn-take_placed.asks_ack from to step c.loop-placed.invariant.full;
      told = λ new t within h. c.loop-placed.invariant.told new t (within_on p c.in-GoesOn-take_placed.asks_ack from to new step c.loop-placed.invariant.full within)
          (turns_on g.T.Told.tells p c.in-GoesOn-take_placed.asks_ack c.loop-placed.frames c.next.new.self from to new c.loop-placed.told c.take_placed-in-Ok-Some.new.told t is step c.loop-placed.invariant.full within c.take_placed-in-Ok-Some.ensures.told h);
    }

pub returns-in-Ends-take_placed-clause-told : goal.returns-in-Ends-take_placed-clause-told
returns-in-Ends-take_placed-clause-told g c =
    let p = view_placed c.in-Ok-Some.placed in
    let is = sym c.in_default.ensures.same ∙ (rw c.in-Ok-Some.field-0-is at c.in-Ok-Some.ensures.step) in
    let to = c.take_placed-in-Ok-Some.new.self in
    c.loop-placed.invariant.told to c.take_placed-in-Ok-Some.new.told (stops_within p (seen (view c.in-Ok-Some.placed.frame)) c.loop-placed.self c.in-Ends-take_placed.result to c.loop-placed.invariant.full c.in-Ends-take_placed.ensures.step)
    (turns_stop g.T.Told.tells p c.loop-placed.frames c.next.new.self c.loop-placed.self to c.in-Ends-take_placed.result c.loop-placed.told c.take_placed-in-Ok-Some.new.told is c.in-Ends-take_placed.ensures.step c.loop-placed.invariant.full
    c.take_placed-in-Ok-Some.ensures.told)
