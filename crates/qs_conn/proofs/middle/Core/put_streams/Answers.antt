use Rattle.std.proofs.Common.{◌≡◌, ◌∙◌, ◌+◌, sym, subst, refl, inr, arith, true, false, take, rules}
use Rattle.qs_machine.specs.Filling.{IsAsked}
use Rattle.qs_conn.specs.Middle.{end_of}
use Rattle.qs_conn.specs.Filling.{Flow, turn_at}
use Rattle.qs_conn.proofs.Cores.{fills_on}
use Rattle.qs_conn.proofs.Flows.{flow_packed, had_none, had_one, had_all, all_asked}
use Rattle.qs_conn.proofs.middle.Core.put_streams.Goals as goal

pub returns-then-not-wish-clause-packed : goal.returns-then-not-wish-clause-packed
returns-then-not-wish-clause-packed c = search (rules, flow_packed, had_none)

pub returns-then-wish-clause-packed : goal.returns-then-wish-clause-packed
returns-then-wish-clause-packed c = λ room old e at start.
    let first = c.args.wish.now.want.first in
    let asked : IsAsked c.args.wish.now.want first = (c.if-not-wish.false, inr refl) in
    flow_packed first c.args.wish.now room old _ _ c.put_open.result.quota c.put_open.result.is_full false (first + 1) (had_one c.args.wish.now.want c.if-wish.true)
    (c.put_open.ensures.flow false first c.args.wish.now room old e asked at (omega arith) start)

pub returns-then-value-eq0-clause-packed : goal.returns-then-value-eq0-clause-packed
returns-then-value-eq0-clause-packed c = λ room old e at start.
    let first = c.args.wish.now.want.first in
    let wish = c.args.wish.now in
    let text = take c.put_way-packet.result.len c.put_way-packet.new.out in
    let there = end_of c.put_way-packet.new.self e in
    let full = c.put_way-packet.result.is_full in
    let quota = c.put_way-packet.result.quota in
    let all = all_asked wish.want c.if-not-wish.false c.if-wish.false in
    let least : 0 ≡ first = omega (arith, c.if-value-eq0.true, c.value.ensures.same) in
    flow_packed first wish room old text there quota full true first (λ n asked. had_all first n) (subst (λ n. Flow wish room old text there quota full (turn_at true first n)) least (c.put_way-packet.ensures.flow wish room old e all at start))

pub returns-clause-packed : goal.returns-clause-packed
returns-clause-packed c = λ room old e at start.
    let first = c.args.wish.now.want.first in
    let wish = c.args.wish.now in
    let all = all_asked wish.want c.if-not-wish.false c.if-wish.false in
    let one = c.put_way-packet.ensures.flow wish room old e all at start in
    let two = c.put_way.ensures.flow wish room old e all (at ∙ sym c.put_way-packet.ensures.filled.room) one in
    flow_packed first wish room old (take c.put_way.result.len c.put_way.new.out) (end_of c.put_way.new.self e) c.put_way.result.quota c.put_way.result.is_full true first (λ n asked. had_all first n) two

pub returns-clause-filled : goal.returns-clause-filled
returns-clause-filled c = fills_on _ _ _ _ _ _ _ _ _ _ _ c.put_way-packet.ensures.filled c.put_way.ensures.filled

pub put_way-requires-clause-memory : goal.put_way-requires-clause-memory
put_way-requires-clause-memory c = c.put_way-packet.ensures.filled.memory 0 c.requires.memory
