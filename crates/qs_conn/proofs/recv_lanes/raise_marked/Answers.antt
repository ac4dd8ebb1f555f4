use Rattle.std.proofs.Common.{◌∙◌, ◌<◌, length, ap, arith, rules}
use Rattle.std.proofs.lemmas.List.{length-set}
use Rattle.qs_conn.proofs.LaneEdits.{none_yet, one_more, past_more, all_raised, still_settled, count_fewer}
use Rattle.qs_conn.proofs.DuePackets.{stays_of, stays_twice}
use Rattle.qs_conn.proofs.recv_lanes.raise_marked.Goals as goal

pub loop-index-init : goal.loop-index-init
loop-index-init c = search (rules, none_yet, stays_of)

pub loop-index-preserved-then-index-len : goal.loop-index-preserved-then-index-len
loop-index-preserved-then-index-len c =
    let there : c.in-Some.index < length c.loop-index.halves.items = omega (arith, c.if-index-len.true, c.len.ensures) in
    record {
      far = rw c.set.ensures (one_more c.args.halves.now.items c.loop-index.halves.items c.raise_at.new.halves.items c.loop-index.rising c.in-Some.index c.loop-index.invariant.far there c.raise_at.ensures.after);
      room = ap length c.set.ensures ∙ length-set _ _ _ ∙ c.loop-index.invariant.room;
      marked = stays_twice c.args.stream_type c.args.halves.now.items c.loop-index.halves.items c.raise_at.new.halves.items c.args.limits.now c.loop-index.limits c.raise_at.new.limits c.loop-index.invariant.marked c.raise_at.ensures.marked;
    }

pub loop-index-preserved : goal.loop-index-preserved
loop-index-preserved c =
    record {
      far = rw c.set.ensures (past_more c.args.halves.now.items c.loop-index.halves.items c.loop-index.rising c.in-Some.index c.loop-index.invariant.far (omega (arith, c.if-index-len.false, c.len.ensures)));
      room = ap length c.set.ensures ∙ length-set _ _ _ ∙ c.loop-index.invariant.room;
      marked = c.loop-index.invariant.marked;
    }

pub loop-index-smaller-then-index-len : goal.loop-index-smaller-then-index-len
loop-index-smaller-then-index-len c = rw c.set.ensures (omega (arith, count_fewer c.loop-index.rising c.in-Some.index (c.next.ensures.next.found c.in-Some.index c.in-Some.is).1))

pub loop-index-smaller : goal.loop-index-smaller
loop-index-smaller c = rw c.set.ensures (omega (arith, count_fewer c.loop-index.rising c.in-Some.index (c.next.ensures.next.found c.in-Some.index c.in-Some.is).1))

pub returns-clause-after : goal.returns-clause-after
returns-clause-after c = all_raised c.args.halves.now.items c.loop-index.halves.items c.loop-index.rising c.loop-index.invariant.far (λ i. c.next.ensures.next.unmarked i (omega arith) (search (rules)))

pub returns-clause-settled : goal.returns-clause-settled
returns-clause-settled c = rw (all_raised c.args.halves.now.items c.loop-index.halves.items c.loop-index.rising c.loop-index.invariant.far (λ i. c.next.ensures.next.unmarked i (omega arith) (search (rules)))) (search (rules, still_settled))
