use Rattle.std.proofs.Common.{length, sym, ◌∙◌, arith}
use Rattle.std.proofs.lemmas.Bool.{eqb-false}
use Rattle.qs_c.proofs.Ranges.{ack_pairs_are}
use Rattle.qs_c.proofs.acks.put.Goals as goal

pub put_delayed_ack-requires-clause-pairs : goal.put_delayed_ack-requires-clause-pairs
put_delayed_ack-requires-clause-pairs c =
    let other = eqb-false (length c.args.ranges.now) 0 (sym c.is_empty.ensures ∙ c.if-is_empty.false) in
    ack_pairs_are c.args.ranges.now _ (omega (arith, other)) (omega (arith, c.if-ranges-gt-MOST.false)) (sym c.is_apart.ensures ∙ c.if-not-is_apart.false) c.pairs_of-pairs.ensures
