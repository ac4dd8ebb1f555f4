use Rattle.std.proofs.Common.{List, ℕ, sym, ap, ◌∙◌, arith}
use Rattle.std.proofs.lemmas.Bool.{eqb-true, eqb-false}
use Rattle.qs_wire.specs.Varint.{numbers_of}
use Rattle.qs_c.specs.Places.{skip_of}
use Rattle.qs_c.proofs.Ranges.{whole_text, text_whole}
use Rattle.qs_c.proofs.puts.is_whole.Goals as goal

pub returns-else-kind-ne-ACK-clause-yes : goal.returns-else-kind-ne-ACK-clause-yes
returns-else-kind-ne-ACK-clause-yes c e is_ack =
    let bytes : List ℕ = c.args.bytes.now in
    whole_text c.numbers_in.result bytes (λ i. omega (arith, c.type_inv.bytes i)) c.numbers_in.ensures (sym c.skip.ensures.exact ∙ eqb-true _ _ e)

pub returns-else-kind-ne-ACK-clause-no : goal.returns-else-kind-ne-ACK-clause-no
returns-else-kind-ne-ACK-clause-no c e whole =
    let bytes : List ℕ = c.args.bytes.now in
    let all = text_whole (numbers_of bytes) bytes (whole c.if-kind-ne-ACK.false) in
    eqb-false _ _ e (c.skip.ensures.exact ∙ ap (λ (n : ℕ). skip_of n bytes) c.numbers_in.ensures ∙ all)
