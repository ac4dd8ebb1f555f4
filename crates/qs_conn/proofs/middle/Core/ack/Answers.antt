use Rattle.std.proofs.Common.{refl, Ok}
use Rattle.qs_wire.specs.Varint.{numbers_of}
use Rattle.qs_wire.specs.Layout.{ack_ranges_of}
use Rattle.qs_conn.proofs.AckRuns.{both_passes, none_named, told_both}
use Rattle.qs_conn.proofs.Cores.{streams_on}
use Rattle.qs_conn.proofs.middle.Core.ack.Goals as goal

pub returns-clause-streams : goal.returns-clause-streams
returns-clause-streams g c = streams_on _ _ _ c.in_ok-ack_all.ensures.streams c.ack_all-2.ensures.streams

pub returns-clause-step : goal.returns-clause-step
returns-clause-step g c = both_passes _ _ c.ack_all.new.self.outbox _ _ (rw (← c.new.ensures) c.in_ok-ack_all.ensures.step) (rw (← c.new-2.ensures) c.ack_all-2.ensures.step)

pub returns-clause-told : goal.returns-clause-told
returns-clause-told g c =
    told_both g.T.Told.tells (ack_ranges_of c.args.largest (numbers_of c.args.ranges.now)) c.args.self.now.outbox c.ack_all.new.self.outbox c.ack_all-2.new.self.outbox c.ack_all-2.result c.args.told.now c.ack_all.new.told
    (rw (← c.new.ensures) (c.in_ok-ack_all.ensures.told refl)) (rw (← c.new-2.ensures) c.ack_all-2.ensures.step)

pub returns-then-not-keeps_lost-clause-step : goal.returns-then-not-keeps_lost-clause-step
returns-then-not-keeps_lost-clause-step g c = both_passes _ _ _ _ _ (rw (← c.new.ensures) c.in_ok-ack_all.ensures.step) (none_named _ _ (c.keeps_lost.ensures c.if-not-keeps_lost.true))

pub returns-then-not-keeps_lost-clause-told : goal.returns-then-not-keeps_lost-clause-told
returns-then-not-keeps_lost-clause-told g c =
    told_both g.T.Told.tells (ack_ranges_of c.args.largest (numbers_of c.args.ranges.now)) c.args.self.now.outbox c.ack_all.new.self.outbox c.ack_all.new.self.outbox (Ok tt) c.args.told.now c.ack_all.new.told
    (rw (← c.new.ensures) (c.in_ok-ack_all.ensures.told refl)) (none_named _ _ (c.keeps_lost.ensures c.if-not-keeps_lost.true))
