use Rattle.std.proofs.Common.{◌≡◌, ◌≤◌, ◌+◌, false, sym, ◌∙◌, arith}
use Rattle.std.proofs.lemmas.Bool.{ltb-false}
use Rattle.qs_wire.specs.Varint.{numbers_of}
use Rattle.qs_wire.specs.Layout.{taken}
use Rattle.qs_c.proofs.Ranges.{odd_ranges, not_true}
use Rattle.qs_c.proofs.puts.are_ranges.Goals as goal

pub returns-clause-yes : goal.returns-clause-yes
returns-clause-yes c e =
    let is : c.falls_below_zero.result ≡ false = not_true c.falls_below_zero.result e in
    let within : taken (numbers_of c.args.bytes.now) ≤ c.args.largest + 1 = ltb-false _ _ (sym c.falls_below_zero.ensures ∙ is) in
    (c.if-largest-ge-LIMIT.false, odd_ranges c.args.bytes.now (λ i. omega (arith, c.type_inv.bytes i)) (omega (arith, within, c.if-largest-ge-LIMIT.false)) (omega (arith, c.numbers_in-count.ensures, c.if-count-eq0.false)), within)
