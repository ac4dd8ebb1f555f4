use Rattle.std.proofs.Common.{refl, arith}
use Rattle.qs_ranges.proofs.Sets.{numbers-none}
use Rattle.qs_send.proofs.Steps.{lawful_new}
use Rattle.qs_send.proofs.half.SendHalf.new.Goals as goal

pub invariant_of-result : goal.invariant_of-result
invariant_of-result c = rw (c.new.ensures, c.none.ensures, c.none-2.ensures, numbers-none 0 0 (omega arith)) (lawful_new c.args.id c.args.limit c.args.buffer (omega (arith, c.value-number.ensures.in_range)) c.requires, omega arith, record { reset = λ _. refl; whole = λ _ _. refl })

pub returns : goal.returns
returns c = rw (c.new.ensures, c.none.ensures, c.none-2.ensures, numbers-none 0 0 (omega arith)) refl
