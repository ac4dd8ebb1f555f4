use Rattle.std.proofs.Common.{◌∙◌, length, subst, sym, rules}
use Rattle.std.proofs.lemmas.Bool.{true≢false}
use Rattle.qs_conn.specs.Filling.{IsAckLeft}
use Rattle.qs_conn.proofs.Stages.{begun_none, begun_left}
use Rattle.qs_conn.proofs.filling.put_ack_if.Goals as goal

pub returns-clause-begun : goal.returns-clause-begun
returns-clause-begun c = λ old left asked same goes sent fresh.
    begun_none c.args.wish.now (length c.args.out.now) old left asked c.if-wish.false (subst (λ b. IsAckLeft b old.ack_due left) c.if-wish.false goes) sent fresh

pub returns-then-wish-clause-begun : goal.returns-then-wish-clause-begun
returns-then-wish-clause-begun c = search (rules, begun_left)

pub returns-then-wish-clause-none : goal.returns-then-wish-clause-none
returns-then-wish-clause-none c = λ none. absurd (true≢false (sym c.if-wish.true ∙ none))
