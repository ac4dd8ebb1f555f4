use Rattle.std.proofs.Common.{Ok, Err, rules}
use Rattle.qs_ranges.specs.declared.NoMemory.{NoMemory}
use Rattle.qs_conn.specs.Runs.{AcksAhead}
use Rattle.qs_conn.proofs.AckRuns.{ahead_stop, goes_below, pass_end, less_self, less_on, less_packet, tells_end, asks_stop, from_ahead, from_less, from_le, from_told}
use Rattle.qs_conn.proofs.Cores.{streams_on}
use Rattle.qs_conn.proofs.middle.Core.ack_ahead.Goals as goal

pub loop-number-preserved : goal.loop-number-preserved
loop-number-preserved g c =
    let old = c.loop-number.self.outbox in
    let mid = c.ack_from.new.self.outbox in
    let acked = rw c.low-low.ensures at c.in_ok-first.ensures.ok in
    record {
      rest = c.in_ok-first.ensures.rest;
      streams = streams_on _ _ _ c.loop-number.invariant.streams c.in_ok-first.ensures.streams;
      onward = λ result new h. c.loop-number.invariant.onward result new
          (from_ahead c.args.late c.loop-number.pass c.next_named.new.pass c.go_below.new.self c.in-Some.number _ old mid new c.next_named.result result c.in-Some.is c.next_named.ensures.answer c.next_named.ensures.falls c.next_named.ensures.below
          c.go_below.ensures acked h);
      told = λ new t early less h. c.loop-number.invariant.told new t early
          (less_on old mid new (from_less c.args.late c.in-Some.number _ _ old mid acked) less)
          (from_told _ c.args.late c.loop-number.pass c.next_named.new.pass c.go_below.new.self c.in-Some.number _ old mid new c.next_named.result c.loop-number.told c.tell_down.new.told t early c.in-Some.is c.next_named.ensures.answer
          c.next_named.ensures.falls c.next_named.ensures.below c.go_below.ensures c.learn_none_empty.ensures less h acked c.tell_down.ensures);
    }

pub tell_down-requires : goal.tell_down-requires
tell_down-requires g c = from_le c.args.late c.in-Some.number _ _ c.loop-number.self.outbox c.ack_from.new.self.outbox c.in_ok-first.ensures.ok

pub returns-in_err-first-clause-step : goal.returns-in_err-first-clause-step
returns-in_err-first-clause-step g c =
    let h : (e : NoMemory) → AcksAhead c.args.late c.args.pass.now c.args.self.now.outbox (Err e) c.ack_from.new.self.outbox =
    λ e. c.loop-number.invariant.onward (Err e) c.ack_from.new.self.outbox
    (ahead_stop c.args.late c.loop-number.pass c.next_named.new.pass c.in-Some.number c.loop-number.self.outbox c.ack_from.new.self.outbox _ e (λ falls. goes_below _ _ _ _ _ c.in-Some.is (c.next_named.ensures.answer falls)) c.in_err-first.ensures.err) in
    search (rules, h, c.from_residual.ensures)

pub returns-in_err-first-clause-told : goal.returns-in_err-first-clause-told
returns-in_err-first-clause-told g c = λ early.
    c.loop-number.invariant.told c.ack_from.new.self.outbox c.loop-number.told early (less_packet c.args.late c.in-Some.number c.loop-number.self.outbox c.ack_from.new.self.outbox _ c.in_err-first.ensures.err)
    (asks_stop _ c.args.late c.loop-number.pass c.in-Some.number c.loop-number.self.outbox c.ack_from.new.self.outbox _ c.loop-number.told early c.in_err-first.ensures.err)

pub returns-clause-step : goal.returns-clause-step
returns-clause-step g c =
    c.loop-number.invariant.onward (Ok tt) c.loop-number.self.outbox (pass_end c.args.late c.loop-number.pass c.next_named.new.pass c.loop-number.self.outbox c.next_named.result c.in_default.is c.next_named.ensures.answer)

pub returns-clause-told : goal.returns-clause-told
returns-clause-told g c = λ early.
    c.loop-number.invariant.told c.loop-number.self.outbox c.loop-number.told early (less_self c.loop-number.self.outbox)
    (tells_end _ c.args.late c.loop-number.pass c.next_named.new.pass c.loop-number.self.outbox c.next_named.result c.loop-number.told early c.in_default.is c.next_named.ensures.answer)
