use Rattle.std.proofs.Common.{◌≡◌, Bool, List, true, sym, subst, ◌∙◌}
use Rattle.qs_machine.specs.Heard.{is_told}
use Rattle.qs_machine.specs.News.{IsHeld, IsLeast}
use Rattle.qs_machine.specs.Sums.{tables_of}
use Rattle.qs_machine.specs.Tables.{type_of}
use Rattle.qs_conn.specs.Marks.{IsMarkedOf, both}
use Rattle.qs_conn.specs.Tasks.{HasTask, has}
use Rattle.qs_conn.proofs.Marked.{next_sought, next_untold}
use Rattle.qs_conn.proofs.outbox.halves.next_sought_of.Goals as goal

pub returns-then-search-clause-least : goal.returns-then-search-clause-least
returns-then-search-clause-least c =
    let t = tables_of c.args.types.now in
    subst (λ (b : Bool). IsLeast (λ n. (type_of n ≡ c.args.stream_type) × (IsHeld (HasTask c.args.search.task) t n × (is_told c.args.told.now n ≡ b))) 0 c.next_both.result) (sym c.if-search.true)
    (next_sought (has c.args.search.task) t c.marks-marks.result.now c.args.stream_type c.marks-marks.ensures true c.args.told.now 0 c.next_both.result
    (subst (λ (ts : List Bool). IsLeast (IsMarkedOf (both c.marks-marks.result.now ts) c.args.stream_type) 0 c.next_both.result) (c.marks.ensures ∙ c.of_type-told.ensures) c.next_both.ensures.least))

pub returns-clause-least : goal.returns-clause-least
returns-clause-least c =
    let t = tables_of c.args.types.now in
    subst (λ (b : Bool). IsLeast (λ n. (type_of n ≡ c.args.stream_type) × (IsHeld (HasTask c.args.search.task) t n × (is_told c.args.told.now n ≡ b))) 0 c.next_untold.result) (sym c.if-search.false)
    (next_untold (has c.args.search.task) t c.marks-marks.result.now c.args.stream_type c.marks-marks.ensures c.args.told.now 0 c.next_untold.result (rw c.of_type-told.ensures at c.next_untold.ensures.least))
