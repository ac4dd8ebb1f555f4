use Rattle.std.proofs.Common.{◌≡◌, not, sym, ap, subst}
use Rattle.qs_conn.specs.Due.{IsMarkedIf, is_same, recv_limit, row_of}
use Rattle.qs_conn.specs.declared.due.Kind.TheVariants as kinds
use Rattle.qs_conn.proofs.Cores.{rest_windowed}
use Rattle.qs_conn.proofs.middle.Core.set_window.Goals as goal

pub returns-clause-rest : goal.returns-clause-rest
returns-clause-rest c =
    let self = c.args.self.now in
    let now = c.set_window.new.self in
    let due = c.note_limit.new.self.due in
    rw c.note_limit.ensures.same
    (rest_windowed self c.requires.rest c.args.stream c.args.window now c.requires.some c.requires.small c.set_window.ensures due
    (subst (λ o. IsMarkedIf (not (is_same o (recv_limit now c.args.stream))) (row_of kinds.MaxStreamData) c.args.stream self.due due) c.limit_of-was.ensures c.note_limit.ensures.marked))
