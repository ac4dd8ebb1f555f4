use Rattle.qs_machine.specs.Sums.{tables_of}
use Rattle.qs_conn.specs.Tasks.{has}
use Rattle.qs_conn.proofs.Marked.{none_passes}
use Rattle.qs_conn.proofs.outbox.halves.may_have.Goals as goal

pub returns : goal.returns
returns c = λ none. none_passes (has c.args.task) (tables_of c.args.types.now) _ _ _ _ c.marks.ensures c.marks-2.ensures c.marks-3.ensures c.marks-4.ensures (c.may_have.ensures c.if-may_have.false) (c.may_have-2.ensures c.if-may_have-2.false) (c.may_have-3.ensures c.if-may_have-3.false) (c.may_have-4.ensures none)
