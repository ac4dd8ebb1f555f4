use Rattle.std.proofs.Common.{◌≡◌, ◌==◌, bit_and, arith}
use Rattle.std.proofs.lemmas.Bool.Decides.{nat_tests}
use Rattle.qs_conn.proofs.DuePackets.{kind_idle}
use Rattle.qs_conn.proofs.MadePackets.{still_unmarked}
use Rattle.qs_conn.proofs.Places.{all_off, row_small}
use Rattle.qs_conn.specs.Due.{row_of}
use Rattle.qs_conn.proofs.middle.Core.is_still.Goals as goal

pub returns : goal.returns
returns c = λ yes.
    let self = c.args.self.now in
    let none : bit_and c.some.result 184 ≡ 0 = grind (arith, nat_tests, yes) in
    still_unmarked self c.requires (c.may_have.ensures c.if-may_have.false) (λ kind n e. kind_idle self.limits self.recvs self.outbox e self.due c.requires.due n kind (c.some.ensures (row_of kind) (row_small kind) (all_off c.some.result kind none) n))
