use Rattle.std.proofs.Common.{◌≡◌, arith, sym, ap, subst, ◌∙◌, take, drop, length, reverse, rules}
use Rattle.std.proofs.lemmas.List.{length-take-le, take_at, drop_at}
use Rattle.qs_ranges.specs.Runs.{AreRunsOf}
use Rattle.qs_wire.specs.Acks.{AreAckPairs, ack_of}
use Rattle.qs_wire.specs.Grammar.{canonical}
use Rattle.qs_conn.proofs.Stages.{ack_one, count_runs, pairs_ok, ack_alone}
use Rattle.qs_conn.proofs.filling.put_kept.Goals as goal

pub slice_bounds-highest-end : goal.slice_bounds-highest-end
slice_bounds-highest-end c = search (rules, length-take-le)

pub put_delayed_ack-requires-clause-pairs : goal.put_delayed_ack-requires-clause-pairs
put_delayed_ack-requires-clause-pairs c =
    let runs = take c.copy_pairs-count.result c.copy_pairs-count.new.into in
    let count = count_runs c.args.done.now runs c.copy_pairs-count.ensures.runs in
    subst AreAckPairs (sym (c.reverse.ensures.after)) (pairs_ok c.args.done.now runs c.copy_pairs-count.ensures.runs c.copy_pairs-count.ensures.within (omega (arith, count, c.requires.some)) (omega (arith, count, c.requires.few)))

pub returns-in-Ok-clause-alone : goal.returns-in-Ok-clause-alone
returns-in-Ok-clause-alone c = λ old same due.
    let runs = take c.copy_pairs-count.result c.copy_pairs-count.new.into in
    let pairs = c.reverse.new.self in
    let count = count_runs c.args.done.now runs c.copy_pairs-count.ensures.runs in
    let highest : pairs ≡ reverse runs = c.reverse.ensures.after in
    let ok : AreAckPairs pairs = subst AreAckPairs (sym highest) (pairs_ok c.args.done.now runs c.copy_pairs-count.ensures.runs c.copy_pairs-count.ensures.within (omega (arith, count, c.requires.some)) (omega (arith, count, c.requires.few))) in
    let text : take c.in-Ok.len c.put_delayed_ack.new.out ≡ canonical (ack_of c.args.delay (take c.in-Ok._count pairs)) =
    ap (take c.in-Ok.len) c.in-Ok.ensures.written.2 ∙ take_at (canonical (ack_of c.args.delay (take c.in-Ok._count pairs))) (drop c.in-Ok.len c.args.out.now) c.in-Ok.len (sym c.in-Ok.ensures.written.0) in
    ack_alone c.args.delay old runs pairs (subst (λ s. AreRunsOf s runs) (sym same) c.copy_pairs-count.ensures.runs) highest ok due c.in-Ok._count c.in-Ok.ensures.some.0 c.in-Ok.ensures.some.1 c.requires.delay (length c.args.out.now) (take c.in-Ok.len c.put_delayed_ack.new.out) text c.in-Ok.ensures.most

pub returns-in-Err-clause-alone : goal.returns-in-Err-clause-alone
returns-in-Err-clause-alone c = λ old same due.
    let runs = take c.copy_pairs-count.result c.copy_pairs-count.new.into in
    let pairs = c.reverse.new.self in
    let count = count_runs c.args.done.now runs c.copy_pairs-count.ensures.runs in
    let highest : pairs ≡ reverse runs = c.reverse.ensures.after in
    let ok : AreAckPairs pairs = subst AreAckPairs (sym highest) (pairs_ok c.args.done.now runs c.copy_pairs-count.ensures.runs c.copy_pairs-count.ensures.within (omega (arith, count, c.requires.some)) (omega (arith, count, c.requires.few))) in
    absurd (omega (arith, c.in-Err.ensures.full.0, ack_one c.args.delay pairs c.requires.delay ok, c.requires.space))

pub returns-in-Ok-clause-rest : goal.returns-in-Ok-clause-rest
returns-in-Ok-clause-rest c = search (rules, drop_at)
