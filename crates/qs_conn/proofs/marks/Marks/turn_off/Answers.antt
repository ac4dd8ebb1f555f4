use Rattle.std.proofs.Common.{not, ◌==◌, ◌+◌, false, arith}
use Rattle.std.proofs.lemmas.Bool.{eqb-true}
use Rattle.std.proofs.lemmas.List.{length-set}
use Rattle.qs_conn.proofs.Marked.{none_in, summed_set, next_cleared, unmarked_set}
use Rattle.qs_conn.proofs.Boths.{not_false}
use Rattle.qs_conn.proofs.marks.Marks.turn_off.Goals as goal

pub invariant_of-self-else-eq : goal.invariant_of-self-else-eq
invariant_of-self-else-eq c =
    let there = rw (← c.self.view_is) at c.requires in (
      summed_set c.self.inside.marks c.self.inside.words c.set.new.self c.set-2.new.self c.args.index false (not (c.word.result == 0)) c.self.invariant.0 there c.set.ensures
          (λ none. none_in _ _ _ c.word.ensures (eqb-true c.word.result 0 (not_false _ none))) c.set-2.ensures,
      rw c.set.ensures (unmarked_set c.self.inside.marks c.args.index (c.self.inside.last + 1) (c.self.inside.last + 1) false (omega arith) (λ is. cc) c.self.invariant.1),
      rw c.set.ensures (next_cleared c.self.inside.marks c.args.index there c.self.inside.first c.self.invariant.2 c.if-eq.ensures),
      rw (c.set.ensures, length-set) c.self.invariant.3,
    )
