use Rattle.std.proofs.Common.{arith}
use Rattle.qs_request.proofs.Asking.{no_number, refuses_none, too_great}
use Rattle.qs_request.proofs.command_line.number.Goals.{in_default-via-in-Ok+else-number-most, in_default-via-in_default}
use Rattle.qs_request.proofs.command_line.number.Goals as goal

pub returns-in_default-clause-refused : goal.returns-in_default-clause-refused
returns-in_default-clause-refused c =
    refuses_none _ c.beyond.result (λ p. no_number c.args.word.now c.args.most p.0 c.parse.result c.parse.ensures.value.0 (omega (arith, c.ranges.most.fits))
    (λ m ok low. elim c.in_default.branch [
      | in_default-via-in-Ok+else-number-most w ↦ too_great c.args.most m w.in-Ok.number c.parse.result ok w.in-Ok.is low w.if-number-most.false
      | in_default-via-in_default w ↦ w.in_default.not-Ok m ok
    ]) p.1)
